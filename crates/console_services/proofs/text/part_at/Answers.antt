use Rattle.std.proofs.Common.{[], refl}
use Rattle.console_services.proofs.StringLemmas.{none_seen}
use Rattle.console_services.proofs.text.part_at.Goals as goal

pub returns-in-None : goal.returns-in-None
returns-in-None c = none_seen c.args.view.now c.args.memory.now c.args.at [] refl
