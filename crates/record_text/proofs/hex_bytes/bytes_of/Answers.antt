use Rattle.std.proofs.Common.{◌∙◌, Some, sym, ap, arith}
use Rattle.record_text.proofs.HexLemmas.{pair_goes_on, pair_fails, one_left, none_left}
use Rattle.record_text.proofs.hex_bytes.bytes_of.Goals as goal

pub returns-in-None : goal.returns-in-None
returns-in-None c = pair_fails c.as_bytes-digits.result.now c.loop-at.bytes.items c.loop-at.at 0 _ c.loop-at.invariant.so_far c.loop-at-test.true (sym c.byte_of.ensures ∙ c.in-None.is)

pub loop-at-preserved : goal.loop-at-preserved
loop-at-preserved c = record {
  so_far = rw c.in_ok-push-in-Some.ensures.items (pair_goes_on c.as_bytes-digits.result.now c.loop-at.bytes.items c.loop-at.at 0 _ c.loop-at.invariant.so_far c.loop-at-test.true c.in-Some.byte (sym c.byte_of.ensures ∙ c.in-Some.is));
  within = omega (arith, c.loop-at-test.true);
}

pub returns-then-at-digits : goal.returns-then-at-digits
returns-then-at-digits c = one_left c.as_bytes-digits.result.now c.loop-at.bytes.items c.loop-at.at 0 _ c.loop-at.invariant.so_far (omega (arith, c.loop-at-test.false, c.if-at-digits.true))

pub returns : goal.returns
returns c = ap Some c.from_vec.ensures ∙ none_left c.as_bytes-digits.result.now c.loop-at.bytes.items c.loop-at.at 0 _ c.loop-at.invariant.so_far (omega (arith, c.if-at-digits.false))
