use Rattle.std.proofs.Common.{◌≡◌, ◌<◌, ℕ, true}
use Rattle.std.specs.Prelude.{slice_get}
use Rattle.provenance_check.specs.Notified.{exit_leaves}
use Rattle.provenance_check.proofs.notified.exits_leave.Given as goal

abbrev pub invariant-loop-n : goal.invariant-loop-n
invariant-loop-n l = (k : ℕ) → k < l.n → exit_leaves l.done l.marks k (slice_get l.nodes k) ≡ true
