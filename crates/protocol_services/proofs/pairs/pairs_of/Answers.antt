use Rattle.std.proofs.Common.{◌≡◌, ◌-◌, ◌+◌, zero, suc, sym, ◌∙◌, arith}
use Rattle.protocol_services.proofs.PairLemmas.{bad, ends, goes_on, runs_out}
use Rattle.protocol_services.proofs.pairs.pairs_of.Goals as goal

pub returns-in-Bad : goal.returns-in-Bad
returns-in-Bad c =
    let k : 33 - c.loop-i.i ≡ suc (33 - (c.loop-i.i + 1)) = omega arith in
    bad _ _ _ _ _ _ _ _ k c.loop-i.invariant (sym c.in-Bad.is ∙ c.in_ok-next_pair.ensures)

pub returns-in-End : goal.returns-in-End
returns-in-End c =
    let k : 33 - c.loop-i.i ≡ suc (33 - (c.loop-i.i + 1)) = omega arith in
    ends _ _ _ _ _ _ _ _ k c.loop-i.invariant (sym c.in-End.is ∙ c.in_ok-next_pair.ensures)

pub loop-i-preserved : goal.loop-i-preserved
loop-i-preserved c =
    let k : 33 - c.loop-i.i ≡ suc (33 - (c.loop-i.i + 1)) = omega arith in
    goes_on _ _ _ _ _ _ _ _ k c.loop-i.invariant _ _ _ _ (sym c.in-Pair.is ∙ c.in_ok-next_pair.ensures) (omega arith) c.in_ok-push-in-Pair.ensures.items

pub returns : goal.returns
returns c =
    let k : 33 - c.loop-i.i ≡ zero = omega arith in
    runs_out _ _ _ _ _ _ _ k c.loop-i.invariant
