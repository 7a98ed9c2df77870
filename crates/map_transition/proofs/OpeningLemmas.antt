-- The pages at opening.
use Rattle.std.proofs.Common.{◌≡◌, ℕ, zero, suc, ◌+◌, ◌*◌, ◌-◌, ◌/◌, ◌≤◌, ◌<◌, true, List, [], ◌∷◌, ◌++◌, append_assoc, refl, ap, ◌∙◌, arith, Some}
use Rattle.std.specs.Prelude.{nat_le, slice_get, replicate}
use Rattle.std.proofs.lemmas.Bool.Decides.{nat_tests}
use Rattle.page_alloc.specs.declared.layout.Layout.{Layout}
use Rattle.page_alloc.specs.declared.page.Page.{Page}
use Rattle.page_alloc.specs.Layout.{IsLayout, layout_at, end_of}
use Rattle.page_alloc.specs.Pages.{page_at, conventional}
use Rattle.page_alloc.specs.Opening.{firmware, opening_pages, at_opening}
use Rattle.map_transition.specs.Wholes.{type_of}
use Rattle.map_transition.specs.Laws.{AreFirmwares, PlacesAtOpening, PlacesHaveTypes}

in_first : (n : ℕ) (x : Page) (ys : List Page) (i : ℕ) → i < n → slice_get (replicate n x ++ ys) i ≡ Some x
in_first zero x ys i l = absurd (omega arith)
in_first (suc n) x ys zero l = refl
in_first (suc n) x ys (suc i) l = in_first n x ys i (omega arith)

behind_first : (n : ℕ) (x : Page) (ys : List Page) (i : ℕ) → slice_get (replicate n x ++ ys) (n + i) ≡ slice_get ys i
behind_first zero x ys i = let e : 0 + i ≡ i = omega arith in rw e refl
behind_first (suc n) x ys i = let e : suc n + i ≡ suc (n + i) = omega arith in rw e (behind_first n x ys i)

-- where the places lie
record Ends (layout : Layout) : Type 0 where
  os : layout.os_stack + 0x44000 ≡ layout.base + 4096 * layout.pages
  boot : layout.boot_stack + 0x23000 ≡ layout.base + 4096 * layout.pages
  system : layout.system + 0x2000 ≡ layout.base + 4096 * layout.pages
  slots : layout.slots + 0x1000 ≡ layout.base + 4096 * layout.pages
  some : 256 ≤ layout.pages

ends : (layout : Layout) → IsLayout layout → Ends layout
unfolding layout_at
ends layout is =
    let room = is.ram.room in
    let a : layout.os_stack ≡ end_of layout.base layout.pages - 0x44000 = ap (λ (l : Layout). l.os_stack) is.places in
    let b : layout.boot_stack ≡ end_of layout.base layout.pages - 0x23000 = ap (λ (l : Layout). l.boot_stack) is.places in
    let c : layout.system ≡ end_of layout.base layout.pages - 0x2000 = ap (λ (l : Layout). l.system) is.places in
    let d : layout.slots ≡ end_of layout.base layout.pages - 0x1000 = ap (λ (l : Layout). l.slots) is.places in
    record { os = omega arith; boot = omega arith; system = omega arith; slots = omega arith; some = room }

-- the pages at opening, a section behind another
abbrev tables : List Page
tables = firmware 6 ∷ firmware 5 ∷ []

abbrev boot_pages : List Page
boot_pages = replicate 33 (firmware 4) ++ tables

abbrev os_pages : List Page
os_pages = replicate 33 (firmware 2) ++ boot_pages

abbrev first_place : Layout → ℕ
first_place layout = (layout.os_stack - layout.base) / 4096

abbrev sections : Layout → List Page
sections layout = replicate (first_place layout) conventional ++ os_pages

listed : (layout : Layout) → IsLayout layout → opening_pages layout ≡ sections layout
unfolding opening_pages
listed layout is =
    let e = ends layout is in
    let n : (layout.boot_stack - layout.os_stack) / 4096 ≡ 33 = omega (arith, e.os, e.boot) in
    let m : (layout.system - layout.boot_stack) / 4096 ≡ 33 = omega (arith, e.system, e.boot) in
    let o : (layout.slots - layout.system) / 4096 ≡ 1 = omega (arith, e.system, e.slots) in
    rw (n, m, o) (simp append_assoc)

module _ (layout : Layout) (is : IsLayout layout) where
  at_index : (at i : ℕ) (page : Page) → layout.base ≤ at → (at - layout.base) / 4096 ≡ i → slice_get (sections layout) i ≡ Some page → page_at (at_opening layout) at ≡ Some page
  unfolding page_at
  at_index at i page low e s = let le : nat_le layout.base at ≡ true = grind (arith, nat_tests) in rw (le, e) (ap (λ (ps : List Page). slice_get ps i) (listed layout is) ∙ s)

  os_at : (k : ℕ) → k < 33 → slice_get (sections layout) (first_place layout + k) ≡ Some (firmware 2)
  os_at k l = behind_first (first_place layout) conventional os_pages k ∙ in_first 33 (firmware 2) boot_pages k l

  boot_at : (k : ℕ) → k < 33 → slice_get (sections layout) (first_place layout + (33 + k)) ≡ Some (firmware 4)
  boot_at k l = behind_first (first_place layout) conventional os_pages (33 + k) ∙ behind_first 33 (firmware 2) boot_pages k ∙ in_first 33 (firmware 4) tables k l

  table_at : (k : ℕ) → slice_get (sections layout) (first_place layout + (33 + (33 + k))) ≡ slice_get tables k
  table_at k = behind_first (first_place layout) conventional os_pages (33 + (33 + k)) ∙ behind_first 33 (firmware 2) boot_pages (33 + k) ∙ behind_first 33 (firmware 4) tables k

  opening : AreFirmwares layout (at_opening layout)
  opening =
      let e = ends layout is in
      let even = is.ram.on_page in
      record {
        os = λ at low high. at_index at (first_place layout + (at - layout.os_stack) / 4096) (firmware 2) (omega (arith, e.os, e.some)) (omega (arith, e.os, e.some, even)) (os_at ((at - layout.os_stack) / 4096) (omega (arith, e.os, e.boot)));
        boot = λ at low high. at_index at (first_place layout + (33 + (at - layout.boot_stack) / 4096)) (firmware 4) (omega (arith, e.boot, e.some)) (omega (arith, e.os, e.boot, e.some, even)) (boot_at ((at - layout.boot_stack) / 4096) (omega (arith, e.boot, e.system)));
        system = λ at low high. at_index at (first_place layout + (33 + (33 + 0))) (firmware 6) (omega (arith, e.system, e.some)) (omega (arith, e.os, e.system, e.slots, e.some, even)) (table_at 0);
        slots = λ at low high. at_index at (first_place layout + (33 + (33 + 1))) (firmware 5) (omega (arith, e.slots, e.some)) (omega (arith, e.os, e.slots, e.some, even)) (table_at 1);
      }

pub places_at_opening : PlacesAtOpening
places_at_opening layout is = opening layout is

pub places_have_types : PlacesHaveTypes
places_have_types layout pages h = record {
  os = λ at low high. ap type_of (h.os at low high);
  boot = λ at low high. ap type_of (h.boot at low high);
  system = λ at low high. ap type_of (h.system at low high);
  slots = λ at low high. ap type_of (h.slots at low high);
}
