-- What is known of registers has proper kinds.
use Rattle.std.proofs.Common.{ℕ, zero, suc, ◌==◌, arith, Bool, true, false, refl, List, [], ◌∷◌}
use Rattle.std.specs.Prelude.{if◌then◌else◌, slice_set, replicate}
use Rattle.prov_types.specs.declared.kinds.Kind.{Kind}
use Rattle.prov_types.specs.declared.kinds.Kind.TheVariants.{Any, Num}
use Rattle.prov_types.specs.Spans.{one}
use Rattle.prov_types.specs.Kinds.{IsProperKind}
use Rattle.prov_cert.specs.declared.cert.RegKind.{RegKind}
use Rattle.provenance_check.specs.Ground.{AreRegisters}
use Rattle.provenance_check.specs.Registers.{kind_at, kinds_of, naming, written}

abbrev pub AllProper : List Kind → Type 0
AllProper kinds = (r : ℕ) → IsProperKind (kind_at kinds r)

set_proper : (kinds : List Kind) (r : ℕ) (kind : Kind) → IsProperKind kind → AllProper kinds → AllProper (slice_set kinds r kind)
set_proper [] r kind p h q = h q
set_proper (k ∷ ks) zero kind p h zero = p
set_proper (k ∷ ks) zero kind p h (suc q) = h (suc q)
set_proper (k ∷ ks) (suc r) kind p h zero = h zero
set_proper (k ∷ ks) (suc r) kind p h (suc q) = set_proper ks r kind p (λ n. h (suc n)) q

pub written_proper : (kinds : List Kind) (r : ℕ) (kind : Kind) → IsProperKind kind → AllProper kinds → AllProper (written kinds r kind)
written_proper kinds r kind p h = by (r == 0)
  where
    by : (b : Bool) → AllProper (if b then kinds else slice_set kinds r kind)
    by true = h
    by false = set_proper kinds r kind p h

pub naming_proper : (kinds : List Kind) (regs : List RegKind) → AllProper kinds → AreRegisters regs → AllProper (naming kinds regs)
unfolding naming
naming_proper kinds [] h f = h
naming_proper kinds (k ∷ ks) h f = naming_proper (written kinds k.reg k.kind) ks (written_proper kinds k.reg k.kind (f 0 k refl).1 h) (λ i n e. f (suc i) n e)

any_proper : (n : ℕ) → AllProper (replicate n Any)
any_proper zero r = tt
any_proper (suc n) zero = tt
any_proper (suc n) (suc r) = any_proper n r

start_proper : AllProper (Num (one 0) ∷ replicate 31 Any)
start_proper zero = record { steps = omega arith; order = omega arith; whole = omega arith }
start_proper (suc r) = any_proper 31 r

pub kinds_proper : (regs : List RegKind) → AreRegisters regs → AllProper (kinds_of regs)
unfolding kinds_of
kinds_proper regs f = naming_proper (Num (one 0) ∷ replicate 31 Any) regs start_proper f
