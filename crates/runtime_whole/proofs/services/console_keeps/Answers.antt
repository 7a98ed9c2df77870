use Rattle.runtime_whole.proofs.EventLemmas.{console_keeps}
use Rattle.runtime_whole.proofs.services.console_keeps.Goals as goal

pub returns : goal.returns
returns c = console_keeps
