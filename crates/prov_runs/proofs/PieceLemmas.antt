-- The piece of a byte.
use Rattle.std.proofs.Common.{◌≡◌, ℕ, zero, suc, ◌≤◌, ◌<◌, ◌+◌, arith, Bool, true, false, refl, sym, ◌∙◌, ap, subst, Option, Some, None, List, [], ◌∷◌, inl, inr}
use Rattle.std.specs.Prelude.{◌==◌, ◌&&◌, nat_lt, nat_le, if◌then◌else◌, slice_get}
use Rattle.std.proofs.lemmas.Bool.Decides.{nat_tests}
use Rattle.prov_layout.specs.declared.piece.Class.{Class}
use Rattle.prov_layout.specs.declared.piece.Class.TheVariants.{Code, Plain, Number, Fixed, Convert}
use Rattle.prov_layout.specs.declared.piece.Piece.{Piece}
use Rattle.prov_layout.specs.Pieces.{AreOrdered, IsBefore, all_of, has_byte, is_cell_among, is_exactly, is_of, is_shut, piece_at, shown, unless_shut}
use Rattle.prov_runs.specs.Memory.{converted}

pub both_of : (s t : Bool) → (s && t) ≡ true → (s ≡ true) × (t ≡ true)
both_of true t h = (refl, h)
both_of false t h = absurd cc

pub record Has (p : Piece) (r o : ℕ) : Type 0 where
  pub region : p.region ≡ r
  pub low : p.at ≤ o
  pub high : o < p.at + p.len

pub has : (p : Piece) (r o : ℕ) → has_byte p r o ≡ true → Has p r o
has p r o h = by (p.region == r) (nat_le p.at o) (nat_lt o (p.at + p.len)) refl refl refl h
  where
    by : (a b c : Bool) → (p.region == r) ≡ a → nat_le p.at o ≡ b → nat_lt o (p.at + p.len) ≡ c → (a && (b && c)) ≡ true → Has p r o
    by true true true e f g k = record { region = grind (arith, nat_tests); low = grind (arith, nat_tests); high = grind (arith, nat_tests) }
    by true true false e f g k = absurd cc
    by true false c e f g k = absurd cc
    by false b c e f g k = absurd cc

pub has_from : (p : Piece) (r o : ℕ) → p.region ≡ r → p.at ≤ o → o < p.at + p.len → has_byte p r o ≡ true
has_from p r o e low high = grind (arith, nat_tests)

-- where the piece of a byte is listed
pub record Found (pieces : List Piece) (p : Piece) (r o : ℕ) : Type 0 where
  pub index : ℕ
  pub listed : slice_get pieces index ≡ Some p
  pub byte : has_byte p r o ≡ true

pub found : (pieces : List Piece) (p : Piece) (r o : ℕ) → piece_at pieces r o ≡ Some p → Found pieces p r o
unfolding piece_at
found [] p r o h = absurd cc
found (q ∷ qs) p r o h = by (found qs p r o) (has_byte q r o) refl h
  where
    by : (piece_at qs r o ≡ Some p → Found qs p r o) → (b : Bool) → has_byte q r o ≡ b → (if b then Some q else piece_at qs r o) ≡ Some p → Found (q ∷ qs) p r o
    by more true e k = let same : q ≡ p = cc in record { index = 0; listed = k; byte = rw (sym same) e }
    by more false e k = let f = more k in record { index = suc f.index; listed = f.listed; byte = f.byte }

-- of two pieces in order none has a byte of the other
apart : (p q : Piece) (r o : ℕ) → IsBefore p q → Has p r o → Has q r o → ⊥
apart p q r o (inl less) h k = let a = h.region in let b = k.region in absurd (omega (arith, less, a, b))
apart p q r o (inr same) h k = let a = h.high in let b = k.low in let c = same.1 in absurd (omega (arith, a, b, c))

-- two pieces with one byte are one
pub one_piece : (pieces : List Piece) (i j r o : ℕ) (p q : Piece) → AreOrdered pieces → slice_get pieces i ≡ Some p → slice_get pieces j ≡ Some q → has_byte p r o ≡ true → has_byte q r o ≡ true → q ≡ p
one_piece pieces i j r o p q order e f h k = by (nat_lt i j) (nat_lt j i) refl refl
  where
    by : (a b : Bool) → nat_lt i j ≡ a → nat_lt j i ≡ b → q ≡ p
    by true b l m = absurd (apart p q r o (order.rise i j p q e f (grind (arith, nat_tests))) (has p r o h) (has q r o k))
    by false true l m = absurd (apart q p r o (order.rise j i q p f e (grind (arith, nat_tests))) (has q r o k) (has p r o h))
    by false false l m =
        let x : j ≤ i = grind (arith, nat_tests) in
        let y : i ≤ j = grind (arith, nat_tests) in
        let same : i ≡ j = omega (arith, x, y) in
        let w : slice_get pieces j ≡ Some p = subst (λ n. slice_get pieces n ≡ Some p) same e in
        cc

listed_has : (pieces : List Piece) (i : ℕ) (p : Piece) (r o : ℕ) → slice_get pieces i ≡ Some p → has_byte p r o ≡ true → piece_at pieces r o ≡ None → ⊥
unfolding piece_at
listed_has [] i p r o e h n = absurd cc
listed_has (q ∷ qs) i p r o e h n = by (has_byte q r o) refl n (listed_has qs) i e
  where
    by : (b : Bool) → has_byte q r o ≡ b → (if b then Some q else piece_at qs r o) ≡ None → ((i : ℕ) (p : Piece) (r o : ℕ) → slice_get qs i ≡ Some p → has_byte p r o ≡ true → piece_at qs r o ≡ None → ⊥)
        → (i : ℕ) → slice_get (q ∷ qs) i ≡ Some p → ⊥
    by true f m more i e = absurd cc
    by false f m more zero e = let same : q ≡ p = cc in let k : has_byte q r o ≡ true = subst (λ z. has_byte z r o ≡ true) (sym same) h in absurd cc
    by false f m more (suc i) e = more i p r o e h m

-- a listed piece is the one of each byte that it has
pub listed_at : (pieces : List Piece) (i : ℕ) (p : Piece) (r o : ℕ) → AreOrdered pieces → slice_get pieces i ≡ Some p → has_byte p r o ≡ true → piece_at pieces r o ≡ Some p
listed_at pieces i p r o order e h = by (piece_at pieces r o) refl
  where
    by : (q : Option Piece) → piece_at pieces r o ≡ q → q ≡ Some p
    by None f = absurd (listed_has pieces i p r o e h f)
    by (Some q) f = let w = found pieces q r o f in ap Some (one_piece pieces i w.index r o p q order e w.listed h w.byte)

-- a byte in a piece whose class passes
pub record OfClass (test : Class → Bool) (at : ℕ → Option Piece) (o : ℕ) : Type 0 where
  pub piece : Piece
  pub is : at o ≡ Some piece
  pub passes : test piece.class ≡ true

pub of_class : (test : Class → Bool) (at : ℕ → Option Piece) (o : ℕ) → is_of test (at o) ≡ true → OfClass test at o
of_class test at o h = by (at o) refl h
  where
    by : (q : Option Piece) → at o ≡ q → is_of test q ≡ true → OfClass test at o
    by None e k = absurd cc
    by (Some p) e k = record { piece = p; is = e; passes = k }

pub all_at : (test : Class → Bool) (at : ℕ → Option Piece) (o n i : ℕ) → all_of test at o n ≡ true → i < n → OfClass test at (o + i)
unfolding all_of
all_at test at o zero i h k = absurd (omega arith)
all_at test at o (suc n) zero h k = let z : o ≡ o + 0 = omega arith in subst (OfClass test at) z (of_class test at o ((both_of _ _ h).0))
all_at test at o (suc n) (suc j) h k = let z : o + 1 + j ≡ o + suc j = omega arith in subst (OfClass test at) z (all_at test at (o + 1) n j ((both_of _ _ h).1) (omega arith))

-- a piece that may be loaded
pub record Shown (shut : Piece → Bool) (pieces : List Piece) (r o : ℕ) (p : Piece) : Type 0 where
  pub is : piece_at pieces r o ≡ Some p
  pub unshut : shut p ≡ false

pub shown_is : (shut : Piece → Bool) (pieces : List Piece) (r o : ℕ) (p : Piece) → shown shut pieces r o ≡ Some p → Shown shut pieces r o p
shown_is shut pieces r o p h = by (piece_at pieces r o) refl h
  where
    at : (q : Piece) → piece_at pieces r o ≡ Some q → (b : Bool) → shut q ≡ b → (if b then None else Some q) ≡ Some p → Shown shut pieces r o p
    at q e true f k = absurd cc
    at q e false f k = let same : q ≡ p = cc in record { is = e ∙ k; unshut = subst (λ z. shut z ≡ false) same f }

    by : (q : Option Piece) → piece_at pieces r o ≡ q → unless_shut shut q ≡ Some p → Shown shut pieces r o p
    by None e k = absurd cc
    by (Some q) e k = at q e (shut q) refl k

-- what may be loaded at a node is compared there
pub compared : (notified : Bool) (done : List ℕ) (p : Piece) → is_shut notified done p ≡ false → is_cell_among (converted notified done) p.class ≡ false
compared true done p h = h
compared false done p h = by p.class
  where
    by : (class : Class) → is_cell_among [] class ≡ false
    by Code = refl
    by Plain = refl
    by (Number kind) = refl
    by (Fixed kind) = refl
    by (Convert kind cell) = refl

pub record Exactly (o width : ℕ) (p : Piece) : Type 0 where
  pub at : p.at ≡ o
  pub len : p.len ≡ width

pub exactly : (o width : ℕ) (p : Piece) → is_exactly o width p ≡ true → Exactly o width p
exactly o width p h =
    let k = both_of (p.at == o) (p.len == width) h in
    let a : (p.at == o) ≡ true = k.0 in
    let b : (p.len == width) ≡ true = k.1 in
    record { at = grind (arith, nat_tests); len = grind (arith, nat_tests) }
