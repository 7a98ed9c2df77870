-- What is known of the registers at a node, and behind an instruction.
use Rattle.std.specs.Prelude.{ℕ, ◌==◌, List, [], ◌∷◌, if◌then◌else◌, replicate, slice_set, slice_index_or}
use Rattle.prov_types.specs.declared.kinds.Kind.{Kind}
use Rattle.prov_types.specs.declared.kinds.Kind.TheVariants.{Any, Num}
use Rattle.prov_types.specs.Spans.{one}
use Rattle.prov_cert.specs.declared.cert.RegKind.{RegKind}

-- the kind of a register, by its number
abbrev pub kind_at : List Kind → ℕ → Kind
kind_at kinds r = slice_index_or kinds r Any

-- register 0 isn't written
abbrev pub written : List Kind → ℕ → Kind → List Kind
written kinds r kind = if r == 0 then kinds else slice_set kinds r kind

-- with those that are named
unfoldable pub naming : List Kind → List RegKind → List Kind
naming kinds [] = kinds
naming kinds (k ∷ ks) = naming (written kinds k.reg k.kind) ks

-- Of all 32 registers: register 0 holds 0, whatever is named, and one that isn't named holds anything.
unfoldable pub kinds_of : List RegKind → List Kind
kinds_of regs = naming (Num (one 0) ∷ replicate 31 Any) regs
