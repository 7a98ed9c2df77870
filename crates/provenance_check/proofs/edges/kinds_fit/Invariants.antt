use Rattle.std.proofs.Common.{◌≡◌, ◌<◌, ℕ, true}
use Rattle.prov_types.specs.Fits.{fits}
use Rattle.provenance_check.specs.Registers.{kind_at}
use Rattle.provenance_check.proofs.edges.kinds_fit.Given as goal

abbrev pub invariant-loop-r : goal.invariant-loop-r
invariant-loop-r l = (k : ℕ) → k < l.r → fits (kind_at l.have k) (kind_at l.want k) ≡ true
