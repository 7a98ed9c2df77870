use Rattle.std.proofs.Common.{◌<◌, ◌+◌, ℕ}
use Rattle.std.specs.Prelude.{slice_index, ◌^◌}
use Rattle.prov_types.specs.Kinds.{length_of}
use Rattle.provenance_check.proofs.conditions.regions_end.Given as goal

abbrev pub invariant-loop-r : goal.invariant-loop-r
invariant-loop-r l = (k : ℕ) → k < l.r → slice_index l.starts k + length_of l.lens k < 2 ^ 64
