use Rattle.std.proofs.Common.{sym, ◌∙◌, arith}
use Rattle.prov_cert.proofs.PartLemmas.{index_goes, index_fails, index_passes, indices_end}
use Rattle.prov_cert.proofs.parts.indices_of.Goals as goal
use Rattle.prov_cert.proofs.parts.indices_of.Goals.{then-not-is_empty+in-Some+in_ok-push-in-Some, else-not-is_empty}

pub returns-in-None : goal.returns-in-None
returns-in-None c = sym (index_fails c.args.bound c.loop-word.numbers.items c.args.words.now c.loop-word.word-index _ _ c.loop-word-test.true c.loop-word.invariant (sym c.if-not-is_empty.ensures) (rw c.number.ensures at c.in-None.ensures))

pub loop-word-preserved : goal.loop-word-preserved
loop-word-preserved c =
    elim c.if-not-is_empty.branch [
      | then-not-is_empty+in-Some+in_ok-push-in-Some w ↦ rw (w.numbers-is, w.in_ok-push-in-Some.ensures.items) (index_goes c.args.bound c.loop-word.numbers.items c.args.words.now c.loop-word.word-index _ _ c.loop-word-test.true c.loop-word.invariant w.in-Some.n (sym w.if-not-is_empty.ensures) (rw w.number.ensures at w.in-Some.ensures))
      | else-not-is_empty w ↦ rw w.numbers-is (index_passes c.args.bound c.loop-word.numbers.items c.args.words.now c.loop-word.word-index _ _ c.loop-word-test.true c.loop-word.invariant (sym w.if-not-is_empty.ensures))
    ]

pub returns : goal.returns
returns c = sym (indices_end c.args.bound c.loop-word.numbers.items c.args.words.now c.loop-word.word-index (omega arith)) ∙ c.loop-word.invariant
