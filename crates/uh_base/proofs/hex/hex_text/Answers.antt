use Rattle.std.proofs.lemmas.Bool.{false≢true}
use Rattle.uh_base.proofs.HexLemmas.{hex_is_text}
use Rattle.uh_base.proofs.hex.hex_text.Goals as goal

pub unreachable-requires : goal.unreachable-requires
unreachable-requires c =
    false≢true (c.in-Err.ensures.succeeds (rw (c.in_ok-push_hex.ensures, c.new-digits.ensures.items) (hex_is_text c.args.count c.args.n)))
