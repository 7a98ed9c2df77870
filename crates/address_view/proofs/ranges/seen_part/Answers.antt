use Rattle.std.proofs.Common.{arith}
use Rattle.address_view.specs.Windows.{see}
use Rattle.address_view.proofs.RunLaws.{part_long}
use Rattle.address_view.proofs.ranges.seen_part.Goals as goal

pub returns-in-Some-clause-some : goal.returns-in-Some-clause-some
returns-in-Some-clause-some c =
    let long = part_long (see c.args.view.now) c.args.memory.now c.args.at c.in-Some.found c.in-Some.ensures.found c.part.result.now c.part.ensures in
    let some = c.in-Some.ensures.found.some in omega (arith, long, some)

pub returns-in-Some-clause-few : goal.returns-in-Some-clause-few
returns-in-Some-clause-few c =
    let long = part_long (see c.args.view.now) c.args.memory.now c.args.at c.in-Some.found c.in-Some.ensures.found c.part.result.now c.part.ensures in
    let few = c.in-Some.ensures.few in omega (arith, long, few)
