-- What is laid, piece by piece.
use Rattle.std.proofs.Common.{◌≡◌, ℕ, zero, suc, ◌≤◌, ◌<◌, ◌+◌, ◌-◌, arith, Bool, true, false, refl, subst, ap, Some, List, [], ◌∷◌, ◌++◌, length}
use Rattle.std.specs.Prelude.{◌==◌, if◌then◌else◌, insert, nat_lt, slice_get}
use Rattle.std.proofs.lemmas.Bool.Decides.{nat_tests}
use Rattle.prov_cert.specs.declared.cert.CertSpan.{CertSpan}
use Rattle.prov_layout.specs.declared.piece.Piece.{Piece}
use Rattle.prov_layout.specs.Pieces.{begins_behind}
use Rattle.prov_layout.specs.Laid.{next_cell, piece_of, pieces_from, put_all, put_in, service_cell, service_cells}

-- those of one list behind those of another
pub one_behind : (pieces ps qs : List Piece) → put_all pieces (ps ++ qs) ≡ put_all (put_all pieces ps) qs
unfolding put_all
one_behind pieces [] qs = refl
one_behind pieces (p ∷ ps) qs = one_behind (put_in p pieces) ps qs

-- the place of a piece, behind those that don't begin behind it
pub placed : (p : Piece) (ps : List Piece) (i : ℕ) → i ≤ length ps → ((k : ℕ) (q : Piece) → k < i → slice_get ps k ≡ Some q → begins_behind q p.region p.at ≡ false)
    → ((q : Piece) → slice_get ps i ≡ Some q → begins_behind q p.region p.at ≡ true) → insert ps i p ≡ put_in p ps
unfolding put_in
placed p [] zero l before at = refl
placed p [] (suc i) l before at = absurd (omega arith)
placed p (q ∷ qs) zero l before at = let h : begins_behind q p.region p.at ≡ true = at q refl in rw h refl
placed p (q ∷ qs) (suc i) l before at =
    let h : begins_behind q p.region p.at ≡ false = before 0 q (omega arith) refl in
    rw h (ap (λ z. q ∷ z) (placed p qs i (omega arith) (λ k r m e. before (suc k) r (omega arith) e) at))

pub services : (cell : Piece) (pieces : List Piece) (i n k : ℕ) → i + suc k ≡ n → cell ≡ service_cell i → put_all (put_in cell pieces) (service_cells (i + 1) k) ≡ put_all pieces (service_cells i (n - i))
unfolding put_all service_cells
services cell pieces i n k e same =
    let b : n - i ≡ suc k = omega arith in
    rw (b, same) refl

-- those of a span, and of the spans behind it
pub one_more : (targets : ℕ → ℕ) (i cell target next : ℕ) (s : CertSpan) (ss : List CertSpan) (pieces new : List Piece) → target ≡ targets i → next ≡ next_cell cell s.class
    → new ≡ (if s.len == 0 then pieces else put_in (piece_of target cell s) pieces) → put_all new (pieces_from targets (i + 1) next ss) ≡ put_all pieces (pieces_from targets i cell (s ∷ ss))
unfolding put_all pieces_from
one_more targets i cell target next s ss pieces new e f h = rw (h, f, e) (by (s.len == 0))
  where
    by : (b : Bool) → put_all (if b then pieces else put_in (piece_of (targets i) cell s) pieces) (pieces_from targets (i + 1) (next_cell cell s.class) ss)
        ≡ put_all pieces (if b then pieces_from targets (i + 1) (next_cell cell s.class) ss else (piece_of (targets i) cell s ∷ pieces_from targets (i + 1) (next_cell cell s.class) ss))
    by true = refl
    by false = refl

-- what is so of the piece at an index
pub one_at : (ps : List Piece) (i r o : ℕ) (b : Bool) (g : Piece) → slice_get ps i ≡ Some g → begins_behind g r o ≡ b → (q : Piece) → slice_get ps i ≡ Some q → begins_behind q r o ≡ b
one_at ps i r o b g e h q f = let same : g ≡ q = cc in subst (λ z. begins_behind z r o ≡ b) same h

pub one_more_lacks : (ps : List Piece) (i r o : ℕ) (g : Piece) → slice_get ps i ≡ Some g → begins_behind g r o ≡ false → ((k : ℕ) (q : Piece) → k < i → slice_get ps k ≡ Some q → begins_behind q r o ≡ false)
    → (k : ℕ) (q : Piece) → k < i + 1 → slice_get ps k ≡ Some q → begins_behind q r o ≡ false
one_more_lacks ps i r o g e h before k q l f = by (nat_lt k i) refl
  where
    by : (b : Bool) → nat_lt k i ≡ b → begins_behind q r o ≡ false
    by true m = before k q (grind (arith, nat_tests)) f
    by false m =
        let n : i ≤ k = grind (arith, nat_tests) in
        let z : k ≡ i = omega (arith, n, l) in
        one_at ps i r o false g e h q (subst (λ x. slice_get ps x ≡ Some q) z f)

pub none_behind : (ps : List Piece) (q : Piece) → slice_get ps (length ps) ≡ Some q → ⊥
none_behind [] q e = cc
none_behind (p ∷ ps) q e = none_behind ps q e
