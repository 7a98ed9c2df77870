use Rattle.std.proofs.Common.{◌≡◌, ◌<◌, ℕ, true}
use Rattle.provenance_tables.specs.Spans.{data_passes}
use Rattle.provenance_tables.proofs.spans.check_data.Given as goal

abbrev pub invariant-loop-i : goal.invariant-loop-i
invariant-loop-i l = (k : ℕ) → k < l.i → data_passes l.image l.state l.starts l.lens l.spans k ≡ true
