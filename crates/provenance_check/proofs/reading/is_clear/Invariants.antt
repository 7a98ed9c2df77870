use Rattle.std.proofs.Common.{◌≡◌, ◌<◌, ℕ, true}
use Rattle.std.specs.Prelude.{◌+◌, is_none}
use Rattle.prov_layout.specs.Pieces.{piece_at}
use Rattle.provenance_check.proofs.reading.is_clear.Given as goal

abbrev pub invariant-loop-i : goal.invariant-loop-i
invariant-loop-i l = (k : ℕ) → k < l.i → is_none (piece_at l.sites 0 (l.o + k)) ≡ true
