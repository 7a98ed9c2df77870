-- While boot services last.
use Rattle.std.proofs.Common.{◌≡◌, ℕ, ◌+◌, ◌*◌, ◌-◌, ◌/◌, ◌%◌, ◌≤◌, ◌<◌, List, length, get_or, refl, sym, ap, subst, ◌∙◌, arith, true, Some}
use Rattle.guest_memory.specs.declared.rights.Rights.{Rights}
use Rattle.guest_memory.specs.Pages.{Pages, touched_at}
use Rattle.guest_memory.specs.Changes.{reserved}
use Rattle.page_alloc.specs.declared.layout.Layout.{Layout}
use Rattle.page_alloc.specs.Layout.{IsLayout, layout_at, end_of}
use Rattle.page_alloc.specs.Opening.{firmware}
use Rattle.page_alloc.specs.Pages.{PageList, page_at}
use Rattle.page_alloc.specs.Laws.{OpeningCoversRam}
use Rattle.map_faults.specs.Rules.{behind}
use Rattle.virtual_map.specs.States.{Runtime, SameParts}
use Rattle.map_transition.specs.Images.{AreTouched}
use Rattle.map_transition.specs.Laws.{AreFirmwares, PlacesAtOpening, StayTouched}
use Rattle.image_services.specs.Images.{Loaded}
use Rattle.image_services.specs.Laws.{OrderStays}
use Rattle.runtime_whole.specs.Boots.{IsPlaced, image_page, BootWhole}
use Rattle.runtime_whole.specs.Guards.{LeavesGuarded}
use Rattle.runtime_whole.specs.Ends.{page_of_ram, with_places}
use Rattle.runtime_whole.specs.Laws.{OpeningIsWhole, HandlesKeep, GuardedSuffice, WritesKeep}
use Rattle.runtime_whole.proofs.MarkLemmas.{is_held, is_marked, stay_marked, reserved_keeps, reserved_marks}

-- ---- where the places lie

pub record Spread (layout : Layout) : Type 0 where
  pub os : layout.os_stack + 0x44000 ≡ layout.base + 4096 * layout.pages
  pub args : layout.os_args + 0x34000 ≡ layout.base + 4096 * layout.pages
  pub back : layout.os_return + 0x24000 ≡ layout.base + 4096 * layout.pages
  pub boot : layout.boot_stack + 0x23000 ≡ layout.base + 4096 * layout.pages
  pub system : layout.system + 0x2000 ≡ layout.base + 4096 * layout.pages
  pub slots : layout.slots + 0x1000 ≡ layout.base + 4096 * layout.pages
  pub some : 256 ≤ layout.pages
  pub even : layout.base % 4096 ≡ 0

pub spread : (layout : Layout) → IsLayout layout → Spread layout
unfolding layout_at
spread layout is =
    let room = is.ram.room in
    let a : layout.os_stack ≡ end_of layout.base layout.pages - 0x44000 = ap (λ (l : Layout). l.os_stack) is.places in
    let b : layout.os_args ≡ end_of layout.base layout.pages - 0x34000 = ap (λ (l : Layout). l.os_args) is.places in
    let c : layout.os_return ≡ end_of layout.base layout.pages - 0x24000 = ap (λ (l : Layout). l.os_return) is.places in
    let d : layout.boot_stack ≡ end_of layout.base layout.pages - 0x23000 = ap (λ (l : Layout). l.boot_stack) is.places in
    let e : layout.system ≡ end_of layout.base layout.pages - 0x2000 = ap (λ (l : Layout). l.system) is.places in
    let f : layout.slots ≡ end_of layout.base layout.pages - 0x1000 = ap (λ (l : Layout). l.slots) is.places in
    record { os = omega arith; args = omega arith; back = omega arith; boot = omega arith; system = omega arith; slots = omega arith; some = room; even = is.ram.on_page }

-- ---- opening

args_touched : (layout : Layout) (rights : Rights) (m : Pages) → IsLayout layout → m.base ≡ layout.base → m.pages ≡ layout.pages → length m.touched ≡ m.pages → AreTouched (with_places layout rights m) layout.os_args layout.os_return
args_touched layout rights m is base count long = λ at low high.
    let s = spread layout is in
    let page = page_of_ram layout layout.os_args in
    let k = (at - m.base) / 4096 in
    let first : (at - m.base) / 4096 ≡ page_of_ram layout layout.os_args + (at - layout.os_args) / 4096 = omega (arith, base, s.args, s.back, s.some, s.even, low, high) in
    let some : (at - layout.os_args) / 4096 < 16 = omega (arith, s.args, s.back, high) in
    let few : (at - m.base) / 4096 < m.pages = omega (arith, base, count, s.back, s.some, high) in
    is_marked (with_places layout rights m) at (is_held (with_places layout rights m) at (omega (arith, base, s.args, s.some, low)) (omega (arith, base, count, s.back, high)))
    (reserved_keeps (reserved m page 16) (page_of_ram layout layout.slots) 1 k (reserved_marks m page 16 k (omega (arith, first)) (omega (arith, first, some)) (omega (arith, few, long))))

pub opening : OpeningCoversRam → PlacesAtOpening → OpeningIsWhole
opening covers at_first m rights r made h = record {
  ram = record {
    is_layout = h.layout;
    base = ap (λ (p : Pages). p.base) h.memory ∙ h.base;
    count = ap (λ (p : Pages). p.pages) h.memory ∙ h.count;
    map_base = ap (λ (p : PageList). p.base) h.pages;
    map_count = ap (λ (p : PageList). length p.pages) h.pages ∙ covers r.layout h.layout;
  };
  places = subst (λ (p : PageList). AreFirmwares r.layout p) (sym h.pages) (at_first r.layout h.layout);
  view = h.view;
  gone = h.gone;
  mapped = h.mapped;
  placed = λ k d l. absurd (omega (arith, l));
  apart = λ i j d before below. absurd (omega (arith, below));
  few = omega arith;
  order = record { rise = λ i j d before below. absurd (omega (arith, below)); made = λ k d l. absurd (omega (arith, l)) };
  arguments = subst (λ (p : Pages). AreTouched p r.layout.os_args r.layout.os_return) (sym h.memory) (args_touched r.layout rights m h.layout h.base h.count h.marks);
}

-- ---- handles

pub handles : OrderStays → HandlesKeep
handles law r images made later b l = record {
  ram = b.ram;
  places = b.places;
  view = b.view;
  gone = b.gone;
  mapped = b.mapped;
  placed = b.placed;
  apart = b.apart;
  few = b.few;
  order = law.more images made later b.order l;
  arguments = b.arguments;
}

-- ---- guarded pages

-- the firmware's pages stay its own
pub places_by : (old new : Runtime) → new.layout ≡ old.layout → ((at t : ℕ) → page_at old.pages at ≡ Some (firmware t) → page_at new.pages at ≡ Some (firmware t)) → AreFirmwares old.layout old.pages → AreFirmwares new.layout new.pages
places_by old new same stay p =
    rw same (record {
      os = λ at low high. stay at 2 (p.os at low high);
      boot = λ at low high. stay at 4 (p.boot at low high);
      system = λ at low high. stay at 6 (p.system at low high);
      slots = λ at low high. stay at 5 (p.slots at low high);
    })

-- the pages of an image stay its own, and touched
pub record Stays (old new : Runtime) (image : Loaded) : Type 0 where
  pub page : (at : ℕ) → image.base ≤ at → at < behind image.base image.pages → page_at old.pages at ≡ Some (image_page image) → page_at new.pages at ≡ Some (image_page image)
  pub mark : (at : ℕ) → image.base ≤ at → at < behind image.base image.pages → page_at old.pages at ≡ Some (image_page image) → touched_at old.memory at ≡ true → touched_at new.memory at ≡ true

pub placed_by : (old new : Runtime) (image : Loaded) → new.layout ≡ old.layout → Stays old new image → IsPlaced old image → IsPlaced new image
placed_by old new image same h p = record {
  on_page = p.on_page;
  low = rw same p.low;
  high = rw same p.high;
  pages = λ at low high. h.page at low high (p.pages at low high);
  sites = record {
    sites = p.sites.sites;
    words = p.sites.words;
    marks = p.sites.marks;
    touched = λ k d l at low high. (
        let inside = p.sites.sites.inside k d l in
        let from : image.base ≤ at = omega (arith, low) in
        let to : at < behind image.base image.pages = omega (arith, high, inside) in
        h.mark at from to (p.pages at from to) (p.sites.touched k d l at low high));
  };
}

-- the pages of the operating system's arguments stay touched
pub arguments_by : (old new : Runtime) (images : List Loaded) (made : ℕ) → BootWhole old images made → new.layout ≡ old.layout → ((at : ℕ) → page_at old.pages at ≡ Some (firmware 2) → touched_at old.memory at ≡ true → touched_at new.memory at ≡ true)
    → AreTouched new.memory new.layout.os_args new.layout.os_return
arguments_by old new images made b same stay =
    let s = spread old.layout b.ram.is_layout in
    rw same (λ at low high. stay at (b.places.os at (omega (arith, s.os, s.args, low)) (omega (arith, s.back, s.boot, high))) (b.arguments at low high))

placed_stays : (old new : Runtime) (image : Loaded) → LeavesGuarded old new → IsPlaced old image → IsPlaced new image
placed_stays old new image h p = placed_by old new image h.layout (record { page = λ at low high e. h.pages at (image_page image) (e, refl); mark = λ at low high e t. h.touched at (image_page image) (e, refl) t }) p

pub guarded : GuardedSuffice
guarded old new images made b h = record {
  ram = h.ram;
  places = places_by old new h.layout (λ at t e. h.pages at (firmware t) (e, refl)) b.places;
  view = h.view ∙ rw h.layout b.view;
  gone = h.gone ∙ b.gone;
  mapped = h.mapped ∙ b.mapped;
  placed = λ k d l. placed_stays old new (get_or images k d) h (b.placed k d l);
  apart = b.apart;
  few = b.few;
  order = b.order;
  arguments = arguments_by old new images made b h.layout (λ at e t. h.touched at (firmware 2) (e, refl) t);
}

-- ---- writes

write_leaves : (old new : Runtime) (images : List Loaded) (made : ℕ) → BootWhole old images made → SameParts old new → StayTouched old.memory new.memory → LeavesGuarded old new
write_leaves old new images made b h keep = record {
  layout = h.layout;
  ram = record {
    is_layout = rw h.layout b.ram.is_layout;
    base = rw (h.layout, h.base) b.ram.base;
    count = rw (h.layout, h.count) b.ram.count;
    map_base = rw (h.layout, h.map) b.ram.map_base;
    map_count = rw (h.layout, h.map) b.ram.map_count;
  };
  view = h.view;
  gone = h.gone;
  mapped = h.mapped;
  pages = λ at page g. rw h.map g.0;
  touched = λ at page g t. stay_marked old.memory new.memory h.base h.count keep at t;
}

pub writes : WritesKeep
writes old new images made b h keep = guarded old new images made b (write_leaves old new images made b h keep)
