use Rattle.std.proofs.Common.{arith}
use Rattle.memory_map.proofs.StretchLemmas.{stretch_more, stretch_fits}
use Rattle.memory_map.proofs.map.stretch.Goals as goal

pub overflow_add-pages : goal.overflow_add-pages
overflow_add-pages c =
    let fits = stretch_fits c.args.runs.now _ c.loop-count.pages c.loop-count.count c.from-pages.result _ c.loop-count-test.true c.from-pages.ensures c.loop-count.invariant in
    let few = c.requires.few in
    omega (arith, fits, few)

pub loop-count-preserved : goal.loop-count-preserved
loop-count-preserved c =
    stretch_more c.args.runs.now _ c.loop-count.pages c.loop-count.count c.from-pages.result _ c.requires.none_empty c.loop-count-test.true c.from-pages.ensures c.if-run-memory_type.false c.loop-count.invariant
