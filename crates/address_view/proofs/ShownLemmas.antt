-- Where a place is shown.
use Rattle.std.proofs.Common.{subst, ◌≡◌, ℕ, ◌+◌, ◌-◌, ◌<◌, ◌≤◌, Bool, true, false, List, refl, sym, ◌∙◌, ap, arith, cond, [], ◌∷◌}
use Rattle.std.specs.Prelude.{Option, Some}
use Rattle.std.proofs.lemmas.Bool.Decides.{nat_tests}
use Rattle.address_view.specs.declared.view.Window.{Window}
use Rattle.address_view.specs.Windows.{Fits, Disjoint, ApartFrom, AreWindows, shows, shows_place, see, window_at, window_of, place_in, address_in, shown_at}
use Rattle.address_view.proofs.ViewLemmas.{is_shown, shown, not_seen}

is_placed : (w : Window) (place : ℕ) → shows_place w place ≡ true → (w.phys ≤ place) × (place < w.phys + w.len)
is_placed w place h = grind (arith, nat_tests)

placed : (w : Window) (place : ℕ) → w.phys ≤ place → place < w.phys + w.len → shows_place w place ≡ true
placed w place low high = grind (arith, nat_tests)

fits_by : (u w : Window) (ws : List Window) (place : ℕ) → Fits u → (window_of ws place ≡ Some w → Fits w × (shows_place w place ≡ true)) → (b : Bool) → shows_place u place ≡ b
    → cond b (Some u) (window_of ws place) ≡ Some w → Fits w × (shows_place w place ≡ true)
fits_by u w ws place fits later true b e = let same : u ≡ w = cc in subst (λ (v : Window). Fits v × (shows_place v place ≡ true)) same (fits, b)
fits_by u w ws place fits later false b e = later e

-- what is found fits and shows the place
pub window_of_fits : (ws : List Window) (w : Window) (place : ℕ) → AreWindows ws → window_of ws place ≡ Some w → Fits w × (shows_place w place ≡ true)
unfolding window_of
window_of_fits [] w place are e = grind arith
window_of_fits (u ∷ us) w place are e = fits_by u w us place are.0 (window_of_fits us w place are.2) (shows_place u place) refl e

not_placed_by : (w u : Window) (rest : Option Window) (at place : ℕ) → Disjoint w.virt w.len u.virt u.len → w.virt ≤ at → at < w.virt + w.len
    → (address_in place rest ≡ Some at → ⊥) → (b : Bool) → shows_place u place ≡ b → address_in place (cond b (Some u) rest) ≡ Some at → ⊥
not_placed_by w u rest at place apart low high later true b e =
    let s = is_placed u place b in
    let p : u.virt + (place - u.phys) ≡ at = cc in
    apart at low high (omega arith) (omega arith)
not_placed_by w u rest at place apart low high later false b e = later e

-- an address of a window is that of no place of a window apart from it
not_placed : (w : Window) (ws : List Window) (at place : ℕ) → ApartFrom w ws → w.virt ≤ at → at < w.virt + w.len → shown_at ws place ≡ Some at → ⊥
unfolding window_of
not_placed w [] at place apart low high e = grind arith
not_placed w (u ∷ us) at place apart low high e =
    not_placed_by w u (window_of us place) at place apart.0 low high (not_placed w us at place apart.2 low high) (shows_place u place) refl e

shown_by : (w : Window) (ws : List Window) (at place : ℕ) → ApartFrom w ws → (see ws at ≡ Some place → shown_at ws place ≡ Some at)
    → (b : Bool) → shows w at ≡ b → (d : Bool) → shows_place w place ≡ d → place_in at (cond b (Some w) (window_at ws at)) ≡ Some place → address_in place (cond d (Some w) (window_of ws place)) ≡ Some at
shown_by w ws at place apart later true b true d e =
    let s = is_shown w at b in
    let p : w.phys + (at - w.virt) ≡ place = cc in
    let q : w.virt + (place - w.phys) ≡ at = omega arith in ap Some q
shown_by w ws at place apart later true b false d e =
    let s = is_shown w at b in
    let p : w.phys + (at - w.virt) ≡ place = cc in
    let h : shows_place w place ≡ true = placed w place (omega arith) (omega arith) in
    let c : true ≡ false = sym h ∙ d in cc
shown_by w ws at place apart later false b true d e =
    let s = is_placed w place d in absurd (not_seen w ws at place apart s.0 s.1 e)
shown_by w ws at place apart later false b false d e = later e

-- what is seen at an address is shown there
pub shown_of_seen : (ws : List Window) (at place : ℕ) → AreWindows ws → see ws at ≡ Some place → shown_at ws place ≡ Some at
unfolding window_at window_of
shown_of_seen [] at place are e = grind arith
shown_of_seen (w ∷ ws) at place are e =
    shown_by w ws at place are.1 (shown_of_seen ws at place are.2) (shows w at) refl (shows_place w place) refl e

seen_by : (w : Window) (ws : List Window) (at place : ℕ) → ApartFrom w ws → (shown_at ws place ≡ Some at → see ws at ≡ Some place)
    → (b : Bool) → shows w at ≡ b → (d : Bool) → shows_place w place ≡ d → address_in place (cond d (Some w) (window_of ws place)) ≡ Some at → place_in at (cond b (Some w) (window_at ws at)) ≡ Some place
seen_by w ws at place apart later true b true d e =
    let s = is_placed w place d in
    let p : w.virt + (place - w.phys) ≡ at = cc in
    let q : w.phys + (at - w.virt) ≡ place = omega arith in ap Some q
seen_by w ws at place apart later false b true d e =
    let s = is_placed w place d in
    let p : w.virt + (place - w.phys) ≡ at = cc in
    let h : shows w at ≡ true = shown w at (omega arith) (omega arith) in
    let c : true ≡ false = sym h ∙ b in cc
seen_by w ws at place apart later true b false d e =
    let s = is_shown w at b in absurd (not_placed w ws at place apart s.0 s.1 e)
seen_by w ws at place apart later false b false d e = later e

-- where a place is shown it is seen
pub seen_of_shown : (ws : List Window) (at place : ℕ) → AreWindows ws → shown_at ws place ≡ Some at → see ws at ≡ Some place
unfolding window_at window_of
seen_of_shown [] at place are e = grind arith
seen_of_shown (w ∷ ws) at place are e =
    seen_by w ws at place are.1 (seen_of_shown ws at place are.2) (shows w at) refl (shows_place w place) refl e
