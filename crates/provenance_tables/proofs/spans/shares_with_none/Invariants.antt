use Rattle.std.proofs.Common.{◌≡◌, ◌<◌, ℕ, true}
use Rattle.std.specs.Prelude.{◌==◌, ◌||◌, not, slice_get}
use Rattle.provenance_tables.specs.Spans.{shares_with}
use Rattle.provenance_tables.proofs.spans.shares_with_none.Given as goal

abbrev pub invariant-loop-j : goal.invariant-loop-j
invariant-loop-j l = (k : ℕ) → k < l.j → (k == l.i || not (shares_with l.s (slice_get l.spans k))) ≡ true
