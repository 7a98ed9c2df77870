-- Bytes and numbers of pieces.
use Rattle.std.proofs.Common.{◌≡◌, ℕ, zero, suc, ◌<◌, ◌≤◌, ◌+◌, ◌^◌, arith, Bool, true, false, refl, sym, ◌∙◌, ap, subst, Option, Some, None, List, [], ◌∷◌, inl, inr}
use Rattle.std.specs.Prelude.{◌≢◌, ◌==◌, ◌&&◌, nat_le, nat_lt, if◌then◌else◌, slice_get}
use Rattle.std.proofs.lemmas.Bool.Decides.{nat_tests}
use Rattle.uh_base.specs.Bytes.{next, number_at}
use Rattle.prov_layout.specs.declared.piece.Class.{Class}
use Rattle.prov_layout.specs.declared.piece.Piece.{Piece}
use Rattle.prov_layout.specs.Pieces.{AreOrdered, IsBefore, all_of, has_byte, is_of, piece_at}
use Rattle.prov_laws.proofs.ReadLemmas.{both}

next_is : (at : ℕ) → at + 1 < 2 ^ 64 → next at ≡ at + 1
next_is at h = omega arith

-- the same bytes are the same number
pub same_number : (b c : ℕ → ℕ) (at to n : ℕ) → at + n < 2 ^ 64 → to + n < 2 ^ 64 → ((i : ℕ) → i < n → b (at + i) ≡ c (to + i)) → number_at b at n ≡ number_at c to n
unfolding number_at
same_number b c at to zero h k same = refl
same_number b c at to (suc n) h k same =
    let zero_at : at + 0 ≡ at = omega arith in
    let zero_to : to + 0 ≡ to = omega arith in
    let first : b at ≡ c to = ap b (sym zero_at) ∙ same 0 (omega arith) ∙ ap c zero_to in
    let more = same_number b c (at + 1) (to + 1) n (omega arith) (omega arith)
    (λ i l. let e : at + 1 + i ≡ at + suc i = omega arith in let f : to + suc i ≡ to + 1 + i = omega arith in ap b e ∙ same (suc i) (omega arith) ∙ ap c f) in
    rw (next_is at (omega arith), next_is to (omega arith), first, more) refl

-- of one place of a region whose bytes there are the same
pub number_stays : (b c : ℕ → ℕ) (start length at n : ℕ) → start + length < 2 ^ 64 → at + n ≤ length → ((i : ℕ) → i < n → c (start + (at + i)) ≡ b (start + (at + i))) → number_at c (start + at) n ≡ number_at b (start + at) n
number_stays b c start length at n end inside same =
    same_number c b (start + at) (start + at) n (omega (arith, end, inside)) (omega (arith, end, inside))
    (λ i k. let e : start + at + i ≡ start + (at + i) = omega arith in ap c e ∙ same i k ∙ ap b (sym e))

-- the piece of a byte
pub record Found (pieces : List Piece) (p : Piece) (r o : ℕ) : Type 0 where
  pub index : ℕ
  pub listed : slice_get pieces index ≡ Some p
  pub byte : has_byte p r o ≡ true

pub found : (pieces : List Piece) (p : Piece) (r o : ℕ) → piece_at pieces r o ≡ Some p → Found pieces p r o
unfolding piece_at
found [] p r o h = absurd cc
found (q ∷ qs) p r o h = by (found qs p r o) (has_byte q r o) refl h
  where
    by : (piece_at qs r o ≡ Some p → Found qs p r o) → (c : Bool) → has_byte q r o ≡ c → (if c then Some q else piece_at qs r o) ≡ Some p → Found (q ∷ qs) p r o
    by more true e k = let same : q ≡ p = cc in record { index = 0; listed = ap Some same; byte = subst (λ z. has_byte z r o ≡ true) same e }
    by more false e k = let f = more k in record { index = suc f.index; listed = f.listed; byte = f.byte }

pub record Has (p : Piece) (r o : ℕ) : Type 0 where
  pub region : p.region ≡ r
  pub low : p.at ≤ o
  pub high : o < p.at + p.len

pub has : (p : Piece) (r o : ℕ) → has_byte p r o ≡ true → Has p r o
has p r o h =
    let a = both (p.region == r) (nat_le p.at o && nat_lt o (p.at + p.len)) h in
    let b = both (nat_le p.at o) (nat_lt o (p.at + p.len)) a.1 in
    let x = a.0 in
    let y = b.0 in
    let z = b.1 in
    record { region = grind (arith, nat_tests); low = grind (arith, nat_tests); high = grind (arith, nat_tests) }

-- a byte in a piece of a class that passes a test
pub record OfClass (test : Class → Bool) (pieces : List Piece) (r o : ℕ) : Type 0 where
  pub piece : Piece
  pub found : Found pieces piece r o
  pub passes : test piece.class ≡ true

pub of_class : (test : Class → Bool) (pieces : List Piece) (r o : ℕ) → is_of test (piece_at pieces r o) ≡ true → OfClass test pieces r o
of_class test pieces r o h = by (piece_at pieces r o) refl h
  where
    by : (q : Option Piece) → piece_at pieces r o ≡ q → is_of test q ≡ true → OfClass test pieces r o
    by None e k = absurd cc
    by (Some p) e k = record { piece = p; found = found pieces p r o e; passes = k }

pub each_of : (test : Class → Bool) (at : ℕ → Option Piece) (o n i : ℕ) → all_of test at o n ≡ true → i < n → is_of test (at (o + i)) ≡ true
unfolding all_of
each_of test at o zero i h k = absurd (omega arith)
each_of test at o (suc n) zero h k = let z : o + 0 ≡ o = omega arith in ap (λ m. is_of test (at m)) z ∙ (both (is_of test (at o)) (all_of test at (o + 1) n) h).0
each_of test at o (suc n) (suc i) h k =
    let z : o + suc i ≡ o + 1 + i = omega arith in
    ap (λ m. is_of test (at m)) z ∙ each_of test at (o + 1) n i (both (is_of test (at o)) (all_of test at (o + 1) n) h).1 (omega (arith, k))

-- two pieces with different indices have no byte in common
pub apart_pieces : (pieces : List Piece) (i j : ℕ) (p q : Piece) (x : ℕ) → AreOrdered pieces → slice_get pieces i ≡ Some p → slice_get pieces j ≡ Some q → i ≢ j
    → q.region ≡ p.region → p.at ≤ x → x < p.at + p.len → q.at ≤ x → x < q.at + q.len → ⊥
apart_pieces pieces i j p q x order e f other same a b c d = by (nat_lt i j) refl
  where
    before : (p q : Piece) → IsBefore p q → q.region ≡ p.region → x < p.at + p.len → q.at ≤ x → ⊥
    before p q (inl l) same b c = absurd (omega (arith, l, same))
    before p q (inr l) same b c = let m = l.1 in absurd (omega (arith, m, b, c))

    by : (t : Bool) → nat_lt i j ≡ t → ⊥
    by true k = let l : i < j = grind (arith, nat_tests) in before p q (order.rise i j p q e f l) same b c
    by false k = let l : j ≤ i = grind (arith, nat_tests) in before q p (order.rise j i q p f e (below l)) (sym same) d a
      where
        below : j ≤ i → j < i
        below l = on (j == i) refl
          where
            on : (t : Bool) → (j == i) ≡ t → j < i
            on true k = absurd (other (let z : j ≡ i = grind (arith, nat_tests) in sym z))
            on false k = let n : j ≢ i = λ z. absurd (grind (arith, nat_tests)) in grind (arith, nat_tests)
