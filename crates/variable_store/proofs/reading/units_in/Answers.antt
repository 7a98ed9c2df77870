use Rattle.std.proofs.Common.{arith}
use Rattle.variable_store.proofs.StoreLemmas.{unit_more, unit_end}
use Rattle.variable_store.proofs.reading.units_in.Goals as goal

pub loop-pair-preserved : goal.loop-pair-preserved
loop-pair-preserved c =
    let cases = c.in-Some.ensures.cases in
    unit_more c.loop-pair.units.items _ c.loop-pair.rest.now _ _ _ _ c.loop-pair.invariant (omega (arith, cases.2)) cases.0 cases.1 c.from_le_bytes.ensures c.in_ok-push.ensures.items

pub returns : goal.returns
returns c = unit_end c.loop-pair.units.items c.loop-pair.rest.now _ c.loop-pair.invariant c.in_default.ensures.cases
