use Rattle.std.proofs.Common.{sym, ◌∙◌, arith}
use Rattle.prov_cert.proofs.PartLemmas.{register_goes, register_fails, registers_end}
use Rattle.prov_cert.proofs.parts.registers_of.Goals as goal

pub returns-in-None : goal.returns-in-None
returns-in-None c = sym (register_fails c.args.regions c.loop-part.kinds.items c.args.parts.now c.loop-part.part-index _ _ c.loop-part-test.true c.loop-part.invariant (rw c.as_slice.ensures.value at c.in-None.ensures))

pub loop-part-preserved : goal.loop-part-preserved
loop-part-preserved c = rw c.in_ok-push-in-Some.ensures.items (register_goes c.args.regions c.loop-part.kinds.items c.args.parts.now c.loop-part.part-index _ _ c.loop-part-test.true c.loop-part.invariant c.in-Some.kind (rw c.as_slice.ensures.value at c.in-Some.ensures))

pub returns : goal.returns
returns c = sym (registers_end c.args.regions c.loop-part.kinds.items c.args.parts.now c.loop-part.part-index (omega arith)) ∙ c.loop-part.invariant
