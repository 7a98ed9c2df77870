use Rattle.std.proofs.Common.{◌≡◌, ◌<◌, ℕ, true}
use Rattle.provenance_tables.specs.Regions.{region_passes}
use Rattle.provenance_tables.proofs.regions.check_regions.Given as goal

abbrev pub invariant-loop-n : goal.invariant-loop-n
invariant-loop-n l = (k : ℕ) → k < l.n → region_passes l.state l.starts l.lens l.own l.spans k ≡ true
