-- The least common kind, from the last offset down.
use Rattle.std.proofs.Common.{◌≡◌, ℕ, suc, ◌<◌, ◌+◌, ◌-◌, ◌*◌, arith, sym, ap, ◌∙◌, Option}
use Rattle.std.proofs.Math.Nat.{add-mul}
use Rattle.prov_types.specs.declared.kinds.Kind.{Kind}
use Rattle.prov_layout.specs.declared.piece.Piece.{Piece}
use Rattle.prov_layout.specs.Joins.{both}
use Rattle.prov_layout.specs.Loads.{load_kind, load_kinds}

pub last : (at : ℕ → Option Piece) (lo by width n : ℕ) → load_kind at (lo + n * by) width ≡ load_kinds at (lo + (n - 0) * by) by width 0
unfolding load_kinds
last at lo by width n = let z : n ≡ n - 0 = omega arith in ap (λ m. load_kind at (lo + m * by) width) z

pub one_more : (at : ℕ → Option Piece) (lo by width n k : ℕ) (a b : Option Kind) → k < n → a ≡ load_kind at (lo + (n - 1 - k) * by) width → b ≡ load_kinds at (lo + (n - k) * by) by width k
    → both a b ≡ load_kinds at (lo + (n - (k + 1)) * by) by width (k + 1)
unfolding load_kinds
one_more at lo by width n k a b h e f =
    let z : n - k ≡ n - (k + 1) + 1 = omega arith in
    let y : n - 1 - k ≡ n - (k + 1) = omega arith in
    let m : (n - k) * by ≡ (n - (k + 1)) * by + 1 * by = ap (λ x. x * by) z ∙ add-mul (n - (k + 1)) 1 by in
    let w : lo + (n - k) * by ≡ lo + (n - (k + 1)) * by + by = omega (arith, m) in
    let e' : a ≡ load_kind at (lo + (n - (k + 1)) * by) width = e ∙ ap (λ x. load_kind at (lo + x * by) width) y in
    let f' : b ≡ load_kinds at (lo + (n - (k + 1)) * by + by) by width k = f ∙ ap (λ x. load_kinds at x by width k) w in
    let s : k + 1 ≡ suc k = omega arith in
    ap (λ x. both x b) e' ∙ ap (λ x. both (load_kind at (lo + (n - (k + 1)) * by) width) x) f' ∙ ap (λ x. load_kinds at (lo + (n - (k + 1)) * by) by width x) (sym s)
