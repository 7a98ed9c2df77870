use Rattle.std.proofs.Common.{sym, ◌∙◌, arith}
use Rattle.prov_cert.proofs.PartLemmas.{part_goes, part_fails, parts_end}
use Rattle.prov_cert.proofs.parts.parts_of.Goals as goal

pub returns-in-None : goal.returns-in-None
returns-in-None c = sym (part_fails c.args.regions c.loop-text.parts.items c.args.texts.now c.loop-text.text-index _ _ c.loop-text-test.true c.loop-text.invariant c.in-None.ensures)

pub loop-text-preserved : goal.loop-text-preserved
loop-text-preserved c = rw c.in_ok-push-in-Some.ensures.items (part_goes c.args.regions c.loop-text.parts.items c.args.texts.now c.loop-text.text-index _ _ c.loop-text-test.true c.loop-text.invariant c.in-Some.part c.in-Some.ensures)

pub returns : goal.returns
returns c = sym (parts_end c.args.regions c.loop-text.parts.items c.args.texts.now c.loop-text.text-index (omega arith)) ∙ c.loop-text.invariant
