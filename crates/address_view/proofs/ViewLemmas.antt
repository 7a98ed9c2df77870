-- No place is seen at two addresses.
use Rattle.std.proofs.Common.{subst, ◌≡◌, ◌≢◌, ℕ, ◌+◌, ◌-◌, ◌<◌, ◌≤◌, Bool, true, false, List, refl, sym, ◌∙◌, ap, arith, inl, inr, cond, [], ◌∷◌}
use Rattle.std.specs.Prelude.{◌==◌, Option, Some, None}
use Rattle.std.proofs.Math.Path.{fun_ext}
use Rattle.std.proofs.lemmas.Bool.Decides.{nat_tests, eqb_tells}
use Rattle.address_view.specs.declared.view.Window.{Window}
use Rattle.address_view.specs.Windows.{Fits, Disjoint, ApartFrom, AreWindows, shows, see, window_at, place_in, at_place, seen_bytes, ShowsOnce}
use Rattle.uh_base.specs.Bytes.{with_byte}

pub is_shown : (w : Window) (at : ℕ) → shows w at ≡ true → (w.virt ≤ at) × (at < w.virt + w.len)
is_shown w at h = grind (arith, nat_tests)

pub shown : (w : Window) (at : ℕ) → w.virt ≤ at → at < w.virt + w.len → shows w at ≡ true
shown w at low high = grind (arith, nat_tests)

not_seen_by : (w u : Window) (rest : Option Window) (at place : ℕ) → Disjoint w.phys w.len u.phys u.len → w.phys ≤ place → place < w.phys + w.len
    → (place_in at rest ≡ Some place → ⊥) → (b : Bool) → shows u at ≡ b → place_in at (cond b (Some u) rest) ≡ Some place → ⊥
not_seen_by w u rest at place apart low high later true b e =
    let s = is_shown u at b in
    let p : u.phys + (at - u.virt) ≡ place = cc in
    apart place low high (omega arith) (omega arith)
not_seen_by w u rest at place apart low high later false b e = later e

-- a place of a window is seen by none that is apart from it
pub not_seen : (w : Window) (ws : List Window) (at place : ℕ) → ApartFrom w ws → w.phys ≤ place → place < w.phys + w.len → see ws at ≡ Some place → ⊥
unfolding window_at
not_seen w [] at place apart low high e = grind arith
not_seen w (u ∷ us) at place apart low high e =
    not_seen_by w u (window_at us at) at place apart.1 low high (not_seen w us at place apart.2 low high) (shows u at) refl e

one_by : (w : Window) (ws : List Window) (a b place : ℕ) → ApartFrom w ws → (see ws a ≡ Some place → see ws b ≡ Some place → a ≡ b)
    → (x : Bool) → shows w a ≡ x → (y : Bool) → shows w b ≡ y
    → place_in a (cond x (Some w) (window_at ws a)) ≡ Some place → place_in b (cond y (Some w) (window_at ws b)) ≡ Some place → a ≡ b
one_by w ws a b place apart later true p true q e f =
    let s = is_shown w a p in
    let t = is_shown w b q in
    let u : w.phys + (a - w.virt) ≡ place = cc in
    let v : w.phys + (b - w.virt) ≡ place = cc in
    omega arith
one_by w ws a b place apart later true p false q e f =
    let s = is_shown w a p in
    let u : w.phys + (a - w.virt) ≡ place = cc in
    absurd (not_seen w ws b place apart (omega arith) (omega arith) f)
one_by w ws a b place apart later false p true q e f =
    let s = is_shown w b q in
    let u : w.phys + (b - w.virt) ≡ place = cc in
    absurd (not_seen w ws a place apart (omega arith) (omega arith) e)
one_by w ws a b place apart later false p false q e f = later e f

-- no place is seen at two addresses
pub one_address : (ws : List Window) (a b place : ℕ) → AreWindows ws → see ws a ≡ Some place → see ws b ≡ Some place → a ≡ b
unfolding window_at
one_address [] a b place are e f = grind arith
one_address (w ∷ ws) a b place are e f =
    one_by w ws a b place are.1 (λ g h. one_address ws a b place are.2 g h) (shows w a) refl (shows w b) refl e f

-- what is found fits and shows the address
fits_by : (u w : Window) (ws : List Window) (at : ℕ) → Fits u → (window_at ws at ≡ Some w → Fits w × (shows w at ≡ true)) → (b : Bool) → shows u at ≡ b
    → cond b (Some u) (window_at ws at) ≡ Some w → Fits w × (shows w at ≡ true)
fits_by u w ws at fits later true b e = let same : u ≡ w = cc in subst (λ (v : Window). Fits v × (shows v at ≡ true)) same (fits, b)
fits_by u w ws at fits later false b e = later e

pub window_fits : (ws : List Window) (w : Window) (at : ℕ) → AreWindows ws → window_at ws at ≡ Some w → Fits w × (shows w at ≡ true)
unfolding window_at
window_fits [] w at are e = grind arith
window_fits (u ∷ us) w at are e = fits_by u w us at are.0 (window_fits us w at are.2) (shows u at) refl e

-- an address of a window is shown by none that is apart from it
apart_by : (u w : Window) (a : ℕ) → Disjoint u.virt u.len w.virt w.len → shows w a ≡ true → (b : Bool) → shows u a ≡ b → b ≡ false
apart_by u w a apart s true e =
    let p = is_shown u a e in let q = is_shown w a s in absurd (apart a p.0 p.1 q.0 q.1)
apart_by u w a apart s false e = refl

apart_shows : (u w : Window) (a : ℕ) → Disjoint u.virt u.len w.virt w.len → shows w a ≡ true → shows u a ≡ false
apart_shows u w a apart s = apart_by u w a apart s (shows u a) refl

hidden_by : (u v w : Window) (ws : List Window) (at a : ℕ) → Disjoint u.virt u.len v.virt v.len → (window_at ws at ≡ Some w → shows u a ≡ false) → shows w a ≡ true → (b : Bool)
    → cond b (Some v) (window_at ws at) ≡ Some w → shows u a ≡ false
hidden_by u v w ws at a apart later s true e = let same : v ≡ w = cc in apart_shows u v a apart (rw same s)
hidden_by u v w ws at a apart later s false e = later e

hidden : (u w : Window) (ws : List Window) (at a : ℕ) → ApartFrom u ws → window_at ws at ≡ Some w → shows w a ≡ true → shows u a ≡ false
unfolding window_at
hidden u w [] at a apart e s = grind arith
hidden u w (v ∷ vs) at a apart e s = hidden_by u v w vs at a apart.0 (λ f. hidden u w vs at a apart.2 f s) s (shows v at) e

same_by : (u w : Window) (ws : List Window) (at a : ℕ) → ApartFrom u ws → (window_at ws at ≡ Some w → window_at ws a ≡ Some w) → shows w a ≡ true → (b : Bool)
    → cond b (Some u) (window_at ws at) ≡ Some w → cond (shows u a) (Some u) (window_at ws a) ≡ Some w
same_by u w ws at a apart later s true e = let same : u ≡ w = cc in let t : shows u a ≡ true = rw same s in rw t e
same_by u w ws at a apart later s false e = rw (hidden u w ws at a apart e s) (later e)

-- each address of a window is found in it
pub same_window : (ws : List Window) (w : Window) (at a : ℕ) → AreWindows ws → window_at ws at ≡ Some w → shows w a ≡ true → window_at ws a ≡ Some w
unfolding window_at
same_window [] w at a are e s = grind arith
same_window (u ∷ us) w at a are e s = same_by u w us at a are.1 (λ f. same_window us w at a are.2 f s) s (shows u at) e

-- a byte stored through one address changes what is seen there and nowhere else
seen_at : (shown : ℕ → Option ℕ) (bytes : ℕ → ℕ) (at place byte a : ℕ) → ShowsOnce shown → shown at ≡ Some place → (o : Option ℕ) → shown a ≡ o
    → at_place 0 (with_byte bytes place byte) o ≡ cond (a == at) byte (at_place 0 bytes o)
seen_at shown bytes at place byte a once e None f =
    elim (eqb_tells a at) [
      | inl same ↦ (let g : Some place ≡ None = sym e ∙ ap shown (sym same.1) ∙ f in grind arith)
      | inr other ↦ rw other.0 refl
    ]
seen_at shown bytes at place byte a once e (Some p) f =
    elim (eqb_tells a at) [
      | inl same ↦ (let g : Some p ≡ Some place = sym f ∙ ap shown same.1 ∙ e in let h : p ≡ place = cc in rw (same.0, h) (grind (arith, nat_tests)))
      | inr other ↦ (let n : p ≢ place = λ h. other.1 (once a at p f (e ∙ ap Some (sym h))) in rw other.0 (grind (arith, nat_tests)))
    ]

pub seen_byte : (shown : ℕ → Option ℕ) (bytes : ℕ → ℕ) (at place byte : ℕ) → ShowsOnce shown → shown at ≡ Some place
    → seen_bytes shown (with_byte bytes place byte) ≡ with_byte (seen_bytes shown bytes) at byte
unfolding seen_bytes
seen_byte shown bytes at place byte once e = fun_ext (λ a. seen_at shown bytes at place byte a once e (shown a) refl)
