use Rattle.std.proofs.Common.{arith, sym, true, length, ◌∙◌}
use Rattle.std.proofs.lemmas.Option.{slice_get-get_or}
use Rattle.prov_layout.proofs.LaidLemmas.{none_behind, one_at, one_more_lacks, placed}
use Rattle.prov_layout.proofs.laying.place_for.Goals as goal

pub returns-then-begins_behind-clause-put : goal.returns-then-begins_behind-clause-put
returns-then-begins_behind-clause-put c =
    placed c.args.p.now c.args.pieces.now c.loop-i.i (omega (arith, c.loop-i-test.true)) c.loop-i.invariant
    (one_at c.args.pieces.now c.loop-i.i c.args.p.now.region c.args.p.now.at true _ (slice_get-get_or c.args.pieces.now c.loop-i.i _ c.loop-i-test.true) (sym c.begins_behind.ensures ∙ c.if-begins_behind.true))

pub loop-i-preserved : goal.loop-i-preserved
loop-i-preserved c =
    one_more_lacks c.args.pieces.now c.loop-i.i c.args.p.now.region c.args.p.now.at _ (slice_get-get_or c.args.pieces.now c.loop-i.i _ c.loop-i-test.true) (sym c.begins_behind.ensures ∙ c.if-begins_behind.false) c.loop-i.invariant

pub returns-clause-put : goal.returns-clause-put
returns-clause-put c =
    placed c.args.p.now c.args.pieces.now (length c.args.pieces.now) (omega arith) (λ k q l. c.loop-i.invariant k q (omega (arith, l, c.loop-i-test.false))) (λ q e. absurd (none_behind c.args.pieces.now q e))
