use Rattle.std.proofs.Common.{◌≡◌, ℕ, Some, List, Bool, [], ◌∷◌, length}
use Rattle.std.specs.Prelude.{slice_get}
use Rattle.provenance_check.specs.Reached.{MarksReached}
use Rattle.provenance_check.proofs.notified.reached_from_each.Given as goal

abbrev pub invariant-loop-i : goal.invariant-loop-i
invariant-loop-i l = (length l.all.items ≡ l.i) × ((k n : ℕ) (m : List Bool) → slice_get l.notify k ≡ Some n → slice_get l.all.items k ≡ Some m → MarksReached l.nodes (n ∷ []) m)
