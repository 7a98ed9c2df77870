use Rattle.std.proofs.Common.{◌≡◌, ◌<◌, ℕ, Some}
use Rattle.std.specs.Prelude.{slice_get}
use Rattle.prov_types.specs.Kinds.{IsProperKind}
use Rattle.prov_cert.specs.declared.cert.StackPart.{StackPart}
use Rattle.provenance_check.proofs.conditions.are_parts.Given as goal

abbrev pub invariant-loop-p : goal.invariant-loop-p
invariant-loop-p l = (i : ℕ) (p : StackPart) → i < l.p-index → slice_get l.parts i ≡ Some p → IsProperKind p.kind
