use Rattle.std.proofs.Common.{sym, ap, arith, ◌∙◌}
use Rattle.runtime_view.specs.Views.{window_count}
use Rattle.runtime_view.proofs.Counts.{few, as_many}
use Rattle.runtime_view.proofs.Lawful.{ends_low}
use Rattle.runtime_view.proofs.counting.window_count.Goals as goal

pub runtime_count-requires : goal.runtime_count-requires
runtime_count-requires c = few _ _ c.requires.layout c.requires.covers

pub between_count-requires-clause-few : goal.between_count-requires-clause-few
between_count-requires-clause-few c = few _ _ c.requires.layout c.requires.covers

pub between_count-requires-clause-low : goal.between_count-requires-clause-low
between_count-requires-clause-low c = ends_low _ _ _ c.requires.covers c.requires.layout.ram.end

pub returns-clause-count : goal.returns-clause-count
unfolding window_count
returns-clause-count c =
    let runtime = c.runtime_count.ensures.count in
    let between = c.between_count.ensures.count in
    omega (arith, runtime, between)

pub returns-clause-all : goal.returns-clause-all
unfolding window_count
returns-clause-all c entries os_virtual =
    let runtime = c.runtime_count.ensures.count in
    let between = c.between_count.ensures.count in
    let all = as_many c.args.layout.now c.args.descriptors.now entries os_virtual in
    omega (arith, runtime, between, all)
