-- Runs of offsets.
use Rattle.std.proofs.Common.{◌≡◌, ℕ, zero, suc, ◌≤◌, ◌<◌, ◌+◌, ◌-◌, ◌*◌, ◌/◌, arith, Bool, true, false, refl, sym, ◌∙◌, ap, Some, List, [], ◌∷◌}
use Rattle.std.specs.Prelude.{◌&&◌, nat_lt, if◌then◌else◌, slice_get}
use Rattle.std.proofs.lemmas.Bool.Decides.{nat_tests}
use Rattle.std.proofs.Math.Nat.{add-mul, div-mul-le_self}
use Rattle.prov_types.specs.declared.kinds.Kind.{Kind}
use Rattle.prov_layout.specs.declared.piece.Class.{Class}
use Rattle.prov_layout.specs.declared.piece.Class.TheVariants.{Code, Plain, Number, Fixed, Convert}
use Rattle.prov_layout.specs.declared.piece.Piece.{Piece}
use Rattle.prov_layout.specs.Offsets.{every}
use Rattle.prov_layout.specs.Pieces.{has_byte, piece_at, is_of, is_plain, is_exactly, all_of, AreOrdered, IsProperClass}
use Rattle.prov_layout.specs.Stores.{is_number, store_keeps, takes}
use Rattle.prov_layout.proofs.Halves.{has, has_from, found_at}

pub every_of : (test : ℕ → Bool) (lo by n : ℕ) → ((i : ℕ) → i < n → test (lo + i * by) ≡ true) → every test lo by n ≡ true
unfolding every
every_of test lo by zero h = refl
every_of test lo by (suc n) h =
    let z : lo ≡ lo + 0 * by = omega arith in
    let a : test lo ≡ true = ap test z ∙ h 0 (omega arith) in
    rw a (every_of test (lo + by) by n (λ i k. let e : lo + by + i * by ≡ lo + suc i * by = omega arith in ap test e ∙ h (suc i) (omega arith)))

pub not_every : (test : ℕ → Bool) (lo by n i : ℕ) → i < n → test (lo + i * by) ≡ false → every test lo by n ≡ false
unfolding every
not_every test lo by zero i h e = absurd (omega arith)
not_every test lo by (suc n) zero h e = let z : lo ≡ lo + 0 * by = omega arith in let a : test lo ≡ false = ap test z ∙ e in rw a refl
not_every test lo by (suc n) (suc i) h e =
    let z : lo + by + i * by ≡ lo + suc i * by = omega arith in
    second (test lo) _ (not_every test (lo + by) by n i (omega arith) (ap test z ∙ e))
  where
    second : (a b : Bool) → b ≡ false → (a && b) ≡ false
    second true b k = k
    second false b k = refl

-- those of a run, behind those that are done
pub more : (test : ℕ → Bool) (lo by done run : ℕ) → ((i : ℕ) → i < done → test (lo + i * by) ≡ true) → ((i : ℕ) → i < run → test (lo + done * by + i * by) ≡ true) → (i : ℕ) → i < done + run → test (lo + i * by) ≡ true
more test lo by done run f g i h = by_case (nat_lt i done) refl
  where
    by_case : (b : Bool) → nat_lt i done ≡ b → test (lo + i * by) ≡ true
    by_case true e = f i (grind (arith, nat_tests))
    by_case false e =
        let k : done ≤ i = grind (arith, nat_tests) in
        let z : i ≡ done + (i - done) = omega (arith, k) in
        let m : i * by ≡ done * by + (i - done) * by = ap (λ n. n * by) z ∙ add-mul done (i - done) by in
        let w : lo + i * by ≡ lo + done * by + (i - done) * by = omega (arith, m) in
        ap test w ∙ g (i - done) (omega (arith, h, k))

-- where a piece is listed that is the one of a byte
pub record Found (pieces : List Piece) (p : Piece) (r o : ℕ) : Type 0 where
  pub index : ℕ
  pub listed : slice_get pieces index ≡ Some p
  pub byte : has_byte p r o ≡ true

pub found : (pieces : List Piece) (p : Piece) (r o : ℕ) → piece_at pieces r o ≡ Some p → Found pieces p r o
unfolding piece_at
found [] p r o h = absurd cc
found (q ∷ qs) p r o h = by (found qs p r o) (has_byte q r o) refl h
  where
    by : (piece_at qs r o ≡ Some p → Found qs p r o) → (b : Bool) → has_byte q r o ≡ b → (if b then Some q else piece_at qs r o) ≡ Some p → Found (q ∷ qs) p r o
    by more true e k = let same : q ≡ p = cc in record { index = 0; listed = k; byte = rw (sym same) e }
    by more false e k = let f = more k in record { index = suc f.index; listed = f.listed; byte = f.byte }

-- a piece is the one of each byte that it has
same_piece : (pieces : List Piece) (p : Piece) (r o x : ℕ) → AreOrdered pieces → piece_at pieces r o ≡ Some p → p.at ≤ x → x < p.at + p.len → piece_at pieces r x ≡ Some p
same_piece pieces p r o x order e low high =
    let f = found pieces p r o e in
    found_at pieces f.index p r x order f.listed (has_from p r x (has p r o f.byte).region low high)

pub proper_at : (pieces : List Piece) (p : Piece) (r o : ℕ) → AreOrdered pieces → piece_at pieces r o ≡ Some p → IsProperClass p.class
proper_at pieces p r o order e = let f = found pieces p r o e in order.proper f.index p f.listed

all_plain : (pieces : List Piece) (p : Piece) (r o x n : ℕ) → AreOrdered pieces → piece_at pieces r o ≡ Some p → is_plain p.class ≡ true → p.at ≤ x → x + n ≤ p.at + p.len → all_of is_plain (piece_at pieces r) x n ≡ true
unfolding all_of
all_plain pieces p r o x zero order e c low high = refl
all_plain pieces p r o x (suc n) order e c low high =
    let at : piece_at pieces r x ≡ Some p = same_piece pieces p r o x order e low (omega arith) in
    let a : is_of is_plain (piece_at pieces r x) ≡ true = rw at c in
    rw a (all_plain pieces p r o (x + 1) n order e c (omega arith) (omega arith))

plain_takes : (class : Class) (width : ℕ) (kind : Kind) → is_plain class ≡ true → is_number kind ≡ true → takes class width kind ≡ true
plain_takes Plain width kind e k = k
plain_takes Code width kind e k = absurd cc
plain_takes (Number own) width kind e k = absurd cc
plain_takes (Fixed own) width kind e k = absurd cc
plain_takes (Convert own cell) width kind e k = absurd cc

plain_at : (pieces : List Piece) (p : Piece) (r o x width : ℕ) (kind : Kind) → AreOrdered pieces → piece_at pieces r o ≡ Some p → is_plain p.class ≡ true → is_number kind ≡ true → p.at ≤ x → 0 < width → x + width ≤ p.at + p.len
    → store_keeps (piece_at pieces r) x width kind ≡ true
unfolding store_keeps
plain_at pieces p r o x width kind order e c number low some high =
    let at : piece_at pieces r x ≡ Some p = same_piece pieces p r o x order e low (omega arith) in
    let all : all_of is_plain (piece_at pieces r) x width ≡ true = all_plain pieces p r o x width order e c low high in
    rw at (by (is_exactly x width p) all)
  where
    by : (b : Bool) → all_of is_plain (piece_at pieces r) x width ≡ true → (if b then takes p.class width kind else (is_number kind && all_of is_plain (piece_at pieces r) x width)) ≡ true
    by true all = plain_takes p.class width kind c number
    by false all = rw (number, all) refl

-- so many offsets of one plain piece keep
pub plain_keeps : (pieces : List Piece) (p : Piece) (r o by width : ℕ) (kind : Kind) → AreOrdered pieces → piece_at pieces r o ≡ Some p → is_plain p.class ≡ true → is_number kind ≡ true → 0 < width
    → o + width ≤ p.at + p.len → (i : ℕ) → i ≤ (p.len - width - (o - p.at)) / by → store_keeps (piece_at pieces r) (o + i * by) width kind ≡ true
plain_keeps pieces p r o by width kind order e c number some high i h =
    let low : p.at ≤ o = (has p r o (found pieces p r o e).byte).low in
    let room = p.len - width - (o - p.at) in
    let m : i * by ≤ room / by * by = mul-le i (room / by) by h in
    let d : room / by * by ≤ room = div-mul-le_self room by in
    plain_at pieces p r o (o + i * by) width kind order e c number (omega (arith, low)) some (omega (arith, m, d, low, high))
  where
    mul-le : (a b k : ℕ) → a ≤ b → a * k ≤ b * k
    mul-le a b k l = let x : b ≡ a + (b - a) = omega arith in let y : b * k ≡ a * k + (b - a) * k = ap (λ n. n * k) x ∙ add-mul a (b - a) k in omega (arith, y)

conj : (a b : Bool) → (a && b) ≡ true → (a ≡ true) × (b ≡ true)
conj true true e = (refl, refl)
conj true false e = absurd cc
conj false b e = absurd cc

-- each of the numbers passes
pub of_every : (test : ℕ → Bool) (lo by n i : ℕ) → every test lo by n ≡ true → i < n → test (lo + i * by) ≡ true
unfolding every
of_every test lo by zero i e h = absurd (omega arith)
of_every test lo by (suc n) zero e h = let z : lo + 0 * by ≡ lo = omega arith in ap test z ∙ (conj _ _ e).0
of_every test lo by (suc n) (suc i) e h =
    let z : lo + suc i * by ≡ lo + by + i * by = omega arith in ap test z ∙ of_every test (lo + by) by n i (conj _ _ e).1 (omega arith)
