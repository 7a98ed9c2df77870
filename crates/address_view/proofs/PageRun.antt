-- When addresses show one page.
use Rattle.std.proofs.Common.{◌≡◌, ℕ, ◌+◌, ◌*◌, ◌-◌, ◌%◌, ◌<◌, ◌≤◌, Bool, true, false, List, refl, ◌∙◌, ap, arith, cond}
use Rattle.std.specs.Prelude.{Option, Some, None, slice_get}
use Rattle.std.proofs.lemmas.Bool.Decides.{nat_tests}
use Rattle.rv_step.specs.declared.bus.Access.{Access}
use Rattle.address_view.specs.declared.view.Window.{Window}
use Rattle.address_view.specs.Windows.{Fits, AreWindows, shows, see, window_at, place_in, at_place}
use Rattle.address_view.specs.Seen.{view_allows, OnePage, may}
use Rattle.address_view.proofs.ViewLemmas.{is_shown, shown, same_window}
use Rattle.guest_memory.specs.Pages.{Pages, Whole, rights_at, holds, page_of}
use Rattle.guest_memory.specs.declared.rights.Rights.{Rights}

held_by : (b : Bool) (rights : Option Rights) (r : Rights) → cond b rights None ≡ Some r → b ≡ true
held_by true rights r e = refl
held_by false rights r e = grind arith

pub held : (m : Pages) (place : ℕ) (r : Rights) → rights_at m place ≡ Some r → holds m place ≡ true
unfolding rights_at
held m place r e = held_by (holds m place) (slice_get m.rights (page_of m place)) r e

pub in_memory : (m : Pages) (place : ℕ) → holds m place ≡ true → (m.base ≤ place) × (place < m.base + 4096 * m.pages)
in_memory m place h = grind (arith, nat_tests)

pub holds_it : (m : Pages) (place : ℕ) → m.base ≤ place → place < m.base + 4096 * m.pages → holds m place ≡ true
holds_it m place low high = grind (arith, nat_tests)

same_rights : (m : Pages) (place i : ℕ) (r : Rights) → Whole m → rights_at m place ≡ Some r → place % 4096 + i < 4096 → rights_at m (place + i) ≡ Some r
unfolding rights_at
same_rights m place i r whole e one =
    let h = held m place r e in
    let b = in_memory m place h in
    let even = whole.base_even in
    let k : holds m (place + i) ≡ true = holds_it m (place + i) (omega arith) (omega arith) in
    let q : page_of m (place + i) ≡ page_of m place = omega arith in
    let f = rw h at e in rw (k, q) f

pub one_page_is : (ws : List Window) (m : Pages) (kind : Access) (w : Window) (r : Rights) (at width : ℕ) → AreWindows ws → Whole m → window_at ws at ≡ Some w → Fits w → shows w at ≡ true
    → at - w.virt + width ≤ w.len → (w.phys + (at - w.virt)) % 4096 + width ≤ 4096 → 1 ≤ width
    → rights_at m (w.phys + (at - w.virt)) ≡ Some r → may kind (Some r) ≡ true → OnePage (see ws) m kind at width (w.phys + (at - w.virt))
unfolding view_allows
one_page_is ws m kind w r at width are whole found fits s room one some rights can =
    let b = is_shown w at s in
    let ve = fits.virt_end in
    let held_at = held m (w.phys + (at - w.virt)) r rights in
    let p = in_memory m (w.phys + (at - w.virt)) held_at in
    let even = whole.base_even in
    let last = whole.end in
    let see_at = λ (i : ℕ) (lt : i < width).
    (let f : window_at ws (at + i) ≡ Some w = same_window ws w at (at + i) are found (shown w (at + i) (omega arith) (omega arith)) in
    let e : w.phys + (at + i - w.virt) ≡ w.phys + (at - w.virt) + i = omega arith in
    ap (place_in (at + i)) f ∙ ap Some e) in
    record {
      seen = see_at;
      end = omega arith;
      place_end = omega arith;
      page = record { low = omega arith; high = omega arith; one = one };
      allowed = λ i lt. (let f = see_at i lt in
          let g : rights_at m (w.phys + (at - w.virt) + i) ≡ Some r = same_rights m (w.phys + (at - w.virt)) i r whole rights (omega arith) in
          ap (λ o. may kind (at_place None (rights_at m) o)) f ∙ ap (may kind) g ∙ can);
    }
