-- What is known of registers, as a list and by their numbers.
use Rattle.std.proofs.Common.{◌≡◌, ℕ, zero, suc, ◌<◌, ◌≤◌, arith, Bool, true, false, refl, ◌∙◌, subst, List, [], ◌∷◌, length}
use Rattle.std.specs.Prelude.{◌==◌, ◌≢◌, nat_le, if◌then◌else◌, slice_set, replicate}
use Rattle.std.proofs.lemmas.Bool.Decides.{nat_tests}
use Rattle.std.proofs.lemmas.List.{get_or-set_same, get_or-set_other, get_or_past, length-set}
use Rattle.prov_types.specs.declared.kinds.Kind.{Kind}
use Rattle.prov_types.specs.declared.kinds.Kind.TheVariants.{Any, Num, Ptr, Opt}
use Rattle.prov_types.specs.Spans.{one}
use Rattle.prov_types.specs.Kinds.{IsProperKind}
use Rattle.prov_types.specs.Fits.{fits}
use Rattle.prov_cert.specs.declared.cert.RegKind.{RegKind}
use Rattle.provenance_check.specs.Ground.{AreRegisters}
use Rattle.provenance_check.specs.Registers.{kind_at, kinds_of, naming, written}
use Rattle.prov_runs.specs.States.{with_kind}

-- Each register that is known is of a proper kind.
abbrev AllProper : List Kind → Type 0
AllProper kinds = (r : ℕ) → IsProperKind (kind_at kinds r)

set_proper : (kinds : List Kind) (r : ℕ) (kind : Kind) → IsProperKind kind → AllProper kinds → AllProper (slice_set kinds r kind)
set_proper [] r kind p h q = h q
set_proper (k ∷ ks) zero kind p h zero = p
set_proper (k ∷ ks) zero kind p h (suc q) = h (suc q)
set_proper (k ∷ ks) (suc r) kind p h zero = h zero
set_proper (k ∷ ks) (suc r) kind p h (suc q) = set_proper ks r kind p (λ n. h (suc n)) q

written_proper : (kinds : List Kind) (r : ℕ) (kind : Kind) → IsProperKind kind → AllProper kinds → AllProper (written kinds r kind)
written_proper kinds r kind p h = by (r == 0)
  where
    by : (b : Bool) → AllProper (if b then kinds else slice_set kinds r kind)
    by true = h
    by false = set_proper kinds r kind p h

naming_proper : (kinds : List Kind) (regs : List RegKind) → AllProper kinds → AreRegisters regs → AllProper (naming kinds regs)
unfolding naming
naming_proper kinds [] h f = h
naming_proper kinds (k ∷ ks) h f = naming_proper (written kinds k.reg k.kind) ks (written_proper kinds k.reg k.kind (f 0 k refl).1 h) (λ i n e. f (suc i) n e)

any_proper : (n : ℕ) → AllProper (replicate n Any)
any_proper zero r = tt
any_proper (suc n) zero = tt
any_proper (suc n) (suc r) = any_proper n r

start_proper : AllProper (Num (one 0) ∷ replicate 31 Any)
start_proper zero = record { steps = omega arith; order = omega arith; whole = omega arith }
start_proper (suc r) = any_proper 31 r

pub kinds_proper : (regs : List RegKind) → AreRegisters regs → (r : ℕ) → IsProperKind (kind_at (kinds_of regs) r)
unfolding kinds_of
kinds_proper regs f = naming_proper (Num (one 0) ∷ replicate 31 Any) regs start_proper f

-- There are 32.
pub written_long : (kinds : List Kind) (r : ℕ) (kind : Kind) → length kinds ≡ 32 → length (written kinds r kind) ≡ 32
written_long kinds r kind h = by (r == 0)
  where
    by : (b : Bool) → length (if b then kinds else slice_set kinds r kind) ≡ 32
    by true = h
    by false = length-set kinds r kind ∙ h

naming_long : (kinds : List Kind) (regs : List RegKind) → length kinds ≡ 32 → length (naming kinds regs) ≡ 32
unfolding naming
naming_long kinds [] h = h
naming_long kinds (k ∷ ks) h = naming_long (written kinds k.reg k.kind) ks (written_long kinds k.reg k.kind h)

pub kinds_long : (regs : List RegKind) → length (kinds_of regs) ≡ 32
unfolding kinds_of
kinds_long regs = naming_long (Num (one 0) ∷ replicate 31 Any) regs refl

-- a list of 32 kinds says the same as kinds by number
abbrev pub AreKinds : List Kind → (ℕ → Kind) → Type 0
AreKinds have kinds = (r : ℕ) → r < 32 → kind_at have r ≡ kinds r

pub as_they_are : (have : List Kind) → AreKinds have (kind_at have)
as_they_are have r h = refl

-- with one that is written
pub with_one : (have : List Kind) (kinds : ℕ → Kind) (rd : ℕ) (kind : Kind) → length have ≡ 32 → AreKinds have kinds → AreKinds (written have rd kind) (with_kind kinds rd kind)
with_one have kinds rd kind long same r h = by (rd == 0) (r == rd) refl
  where
    by : (b c : Bool) → (r == rd) ≡ c → kind_at (if b then have else slice_set have rd kind) r ≡ (if b then kinds r else (if c then kind else kinds r))
    by true c e = same r h
    by false true e =
        let here : r ≡ rd = grind (arith, nat_tests) in
        rw here (get_or-set_same have rd kind Any (omega (arith, h, long, here)))
    by false false e =
        let other : r ≢ rd = λ k. absurd (grind (arith, nat_tests)) in
        get_or-set_other have rd r kind Any other ∙ same r h

fits_any : (a : Kind) → fits a Any ≡ true
unfolding fits
fits_any Any = refl
fits_any (Num s) = refl
fits_any (Ptr r s) = refl
fits_any (Opt r s) = refl

-- Kinds by number fit where the list does; of a register that there isn't nothing is known.
pub fit_so : (have : List Kind) (kinds : ℕ → Kind) (regs : List RegKind) → AreKinds have kinds → ((r : ℕ) → fits (kind_at have r) (kind_at (kinds_of regs) r) ≡ true)
    → (r : ℕ) → fits (kinds r) (kind_at (kinds_of regs) r) ≡ true
fit_so have kinds regs same fit r = by (nat_le 32 r) refl
  where
    by : (b : Bool) → nat_le 32 r ≡ b → fits (kinds r) (kind_at (kinds_of regs) r) ≡ true
    by true f =
        let h : 32 ≤ r = grind (arith, nat_tests) in
        let l = kinds_long regs in
        let k : kind_at (kinds_of regs) r ≡ Any = get_or_past (kinds_of regs) r Any (omega (arith, h, l)) in
        rw k (fits_any (kinds r))
    by false f =
        let h : r < 32 = grind (arith, nat_tests) in
        subst (λ k. fits k (kind_at (kinds_of regs) r) ≡ true) (same r h) (fit r)
