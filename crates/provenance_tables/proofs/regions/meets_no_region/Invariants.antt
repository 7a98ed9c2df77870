use Rattle.std.proofs.Common.{◌≡◌, ◌<◌, ℕ, true}
use Rattle.std.specs.Prelude.{not}
use Rattle.provenance_tables.specs.Regions.{meets_region}
use Rattle.provenance_tables.proofs.regions.meets_no_region.Given as goal

abbrev pub invariant-loop-m : goal.invariant-loop-m
invariant-loop-m l = (k : ℕ) → k < l.m → not (meets_region l.starts l.lens l.n k) ≡ true
