use Rattle.std.proofs.Common.{◌≡◌, ◌<◌, ℕ, Some}
use Rattle.std.specs.Prelude.{slice_get}
use Rattle.prov_cert.specs.Cert.{Node}
use Rattle.provenance_check.specs.Ground.{IsFormed}
use Rattle.provenance_check.proofs.conditions.are_formed.Given as goal

abbrev pub invariant-loop-n : goal.invariant-loop-n
invariant-loop-n l = (i : ℕ) (n : Node) → i < l.n → slice_get l.nodes i ≡ Some n → IsFormed n
