use Rattle.std.proofs.Common.{◌≡◌, ◌<◌, ℕ, true}
use Rattle.std.specs.Prelude.{not}
use Rattle.provenance_check.specs.Notified.{serves_in}
use Rattle.provenance_check.proofs.notified.serves_in_none.Given as goal

abbrev pub invariant-loop-r : goal.invariant-loop-r
invariant-loop-r l = (k : ℕ) → k < l.r → not (serves_in l.starts l.lens l.context l.node k) ≡ true
