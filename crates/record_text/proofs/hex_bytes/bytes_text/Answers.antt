use Rattle.record_text.proofs.HexLemmas.{text_goes_on, text_ends}
use Rattle.record_text.proofs.hex_bytes.bytes_text.Goals as goal
use Rattle.std.proofs.Common.{arith}

pub loop-byte-preserved : goal.loop-byte-preserved
loop-byte-preserved c =
    rw (c.in_ok-push_str.ensures.bytes, c.as_str.ensures.value, c.in_ok-digits.ensures, c.from.ensures) (text_goes_on c.args.bytes.now _ _ c.loop-byte.byte-index 0 c.loop-byte-test.true c.loop-byte.invariant)

pub returns : goal.returns
returns c = text_ends c.args.bytes.now _ _ c.loop-byte.byte-index (omega arith) c.loop-byte.invariant
