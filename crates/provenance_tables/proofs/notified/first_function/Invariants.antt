use Rattle.std.proofs.Common.{◌≡◌, ◌<◌, ℕ, true}
use Rattle.provenance_tables.specs.Tables.{notify_passes}
use Rattle.provenance_tables.proofs.notified.first_function.Given as goal

abbrev pub invariant-loop-i : goal.invariant-loop-i
invariant-loop-i l = (k : ℕ) → k < l.i → notify_passes l.image l.starts l.lens l.functions l.nodes l.notify l.marks k ≡ true
