use Rattle.std.proofs.Common.{◌≡◌, ◌<◌, ℕ, Some}
use Rattle.std.specs.Prelude.{slice_get}
use Rattle.prov_types.specs.Kinds.{IsProperKind}
use Rattle.prov_cert.specs.declared.cert.RegKind.{RegKind}
use Rattle.provenance_check.proofs.conditions.are_registers.Given as goal

abbrev pub invariant-loop-k : goal.invariant-loop-k
invariant-loop-k l = (i : ℕ) (k : RegKind) → i < l.k-index → slice_get l.regs i ≡ Some k → (k.reg < 32) × IsProperKind k.kind
