use Rattle.std.proofs.Common.{◌+◌, ◌%◌, ◌^◌, [], refl, arith}
use Rattle.console_services.proofs.StringLemmas.{none_seen, later_seen}
use Rattle.console_services.proofs.text.unit_of.Goals as goal

pub returns-then-part-lt2-clause-later : goal.returns-then-part-lt2-clause-later
returns-then-part-lt2-clause-later c = none_seen c.args.view.now c.args.memory.now ((c.args.at + 2) % 2 ^ 64) [] refl

pub returns-clause-later : goal.returns-clause-later
returns-clause-later c =
    let long = c.if-part-lt2.false in
    later_seen c.args.view.now c.args.memory.now c.args.at c.args.part.now (omega arith) c.requires
