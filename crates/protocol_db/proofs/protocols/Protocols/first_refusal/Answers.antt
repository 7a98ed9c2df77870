use Rattle.std.proofs.Common.{arith, sym, ◌∙◌}
use Rattle.protocol_db.proofs.AllLemmas.{refused_there, none_refused, all_judged}
use Rattle.protocol_db.proofs.protocols.Protocols.first_refusal.Goals as goal

pub returns-then-is_some : goal.returns-then-is_some
returns-then-is_some c =
    refused_there c.args.self.now.handles c.args.handle c.args.pairs.now c.loop-place.place _ c.refusal_after-refusal.result _ (let l = c.loop-place-test.true in omega (arith, l)) c.refusal_after-refusal.ensures (sym c.is_some.ensures ∙ c.if-is_some.true) c.loop-place.invariant

pub loop-place-preserved : goal.loop-place-preserved
loop-place-preserved c =
    none_refused c.args.self.now.handles c.args.handle c.args.pairs.now c.loop-place.place _ c.refusal_after-refusal.result _ (let l = c.loop-place-test.true in omega (arith, l)) c.refusal_after-refusal.ensures (sym c.is_some.ensures ∙ c.if-is_some.false) c.loop-place.invariant

pub returns : goal.returns
returns c = all_judged c.args.self.now.handles c.args.handle c.args.pairs.now c.loop-place.place _ (let l = c.loop-place-test.false in omega (arith, l)) c.loop-place.invariant
