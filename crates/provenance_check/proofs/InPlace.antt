-- Pieces of which each is behind the one before it.
use Rattle.std.proofs.Common.{◌≡◌, ℕ, zero, suc, ◌≤◌, ◌<◌, ◌+◌, ◌-◌, arith, Bool, true, false, refl, sym, ◌∙◌, ap, subst, Some, List, length, get_or, inl, inr}
use Rattle.std.specs.Prelude.{slice_get, nat_lt}
use Rattle.std.proofs.lemmas.Bool.Decides.{nat_tests}
use Rattle.std.proofs.lemmas.Option.{slice_get-get_or, slice_get_within}
use Rattle.prov_layout.specs.declared.piece.Piece.{Piece}
use Rattle.prov_layout.specs.Pieces.{AreOrdered, IsBefore}
use Rattle.provenance_check.specs.Ground.{BehindAt, ProperAt}

pub up_to : (pieces : List Piece) (n : ℕ) → ((k : ℕ) → k < n → ProperAt pieces k × BehindAt pieces k) → ProperAt pieces n → BehindAt pieces n → (k : ℕ) → k < n + 1 → ProperAt pieces k × BehindAt pieces k
up_to pieces n h p b k l = by (nat_lt k n) refl
  where
    by : (c : Bool) → nat_lt k n ≡ c → ProperAt pieces k × BehindAt pieces k
    by true e = h k (grind (arith, nat_tests))
    by false e =
        let m : n ≤ k = grind (arith, nat_tests) in
        let z : n ≡ k = omega (arith, m, l) in
        subst (λ i. ProperAt pieces i × BehindAt pieces i) z (p, b)

before_both : (p q r : Piece) → IsBefore p q → IsBefore q r → IsBefore p r
before_both p q r (inl a) (inl b) = inl (omega (arith, a, b))
before_both p q r (inl a) (inr b) = let e = b.0 in inl (omega (arith, a, e))
before_both p q r (inr a) (inl b) = let e = a.0 in inl (omega (arith, b, e))
before_both p q r (inr a) (inr b) = let e = a.0 in let f = b.0 in let l = a.1 in let m = b.1 in inr (e ∙ f, omega (arith, l, m))

rises : (pieces : List Piece) → ((k : ℕ) → k < length pieces → ProperAt pieces k × BehindAt pieces k) → (n i : ℕ) (p q : Piece) → slice_get pieces i ≡ Some p → slice_get pieces (suc (i + n)) ≡ Some q → IsBefore p q
rises pieces h zero i p q e f =
    let z : suc (i + 0) ≡ suc i = omega arith in
    let f' : slice_get pieces (suc i) ≡ Some q = sym (ap (slice_get pieces) z) ∙ f in
    let l : suc i < length pieces = slice_get_within pieces (suc i) q f' in
    (h (suc i) l).1 i p q refl e f'
rises pieces h (suc n) i p q e f =
    let z : suc (i + suc n) ≡ suc (suc (i + n)) = omega arith in
    let f' : slice_get pieces (suc (suc (i + n))) ≡ Some q = sym (ap (slice_get pieces) z) ∙ f in
    let l : suc (suc (i + n)) < length pieces = slice_get_within pieces (suc (suc (i + n))) q f' in
    let m = slice_get-get_or pieces (suc (i + n)) p (omega (arith, l)) in
    before_both p (get_or pieces (suc (i + n)) p) q (rises pieces h n i p (get_or pieces (suc (i + n)) p) e m) ((h (suc (suc (i + n))) l).1 (suc (i + n)) (get_or pieces (suc (i + n)) p) q refl m f')

pub ordered : (pieces : List Piece) → ((k : ℕ) → k < length pieces → ProperAt pieces k × BehindAt pieces k) → AreOrdered pieces
ordered pieces h = record {
  rise = λ i j p q e f l.
      let z : j ≡ suc (i + (j - suc i)) = omega (arith, l) in
      rises pieces h (j - suc i) i p q e (sym (ap (slice_get pieces) z) ∙ f);
  proper = λ i p e. (h i (slice_get_within pieces i p e)).0 p e;
}
