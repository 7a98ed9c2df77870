-- An image is loaded.
use Rattle.std.proofs.Common.{◌≡◌, ℕ, zero, suc, ◌+◌, ◌*◌, ◌-◌, ◌/◌, ◌%◌, ◌^◌, ◌≤◌, ◌<◌, Bool, true, false, List, [], ◌∷◌, ◌++◌, length, length-append, get_or, refl, sym, ap, subst, ◌∙◌, arith, inl, inr, Some, None}
use Rattle.std.specs.Prelude.{slice_get, nat_lt, ◌==◌, Option, Ok, Err, if◌then◌else◌}
use Rattle.std.specs.List.{All}
use Rattle.std.proofs.lemmas.Bool.Decides.{nat_tests, leb_tells}
use Rattle.std.proofs.lemmas.List.{length-replicate}
use Rattle.std.proofs.lemmas.List.Elements.{All-push}
use Rattle.std.proofs.lemmas.List.Quantifiers.{all_pairs_push}
use Rattle.guest_memory.specs.Pages.{Pages, is_touched, page_of, all_rights, touched_at, or_false}
use Rattle.guest_memory.specs.Pages as memory
use Rattle.guest_memory.specs.Changes.{reserved, with_rights, written_pages, TouchedBesides}
use Rattle.page_alloc.specs.declared.page.Owner.TheVariants as owners
use Rattle.page_alloc.specs.declared.page.Page.{Page}
use Rattle.page_alloc.specs.Pages.{PageList, page_at, index_of, is_conventional}
use Rattle.page_alloc.specs.Pages as pages
use Rattle.page_alloc.specs.Opening.{firmware}
use Rattle.page_alloc.specs.Laws.{CallsLeaveOthers}
use Rattle.pool_alloc.specs.declared.span.PageSpan.{PageSpan}
use Rattle.pe_image.specs.declared.image.Section.{Section}
use Rattle.pe_image.specs.ImageOf.{Fields, image_of, is_subsystem}
use Rattle.pe_image.specs.Sound.{IsImage}
use Rattle.pe_image.specs.Placed.{in_pages, placed_byte}
use Rattle.base_reloc.specs.declared.site.Site.{Site}
use Rattle.base_reloc.specs.Sites.{AreSites}
use Rattle.base_reloc.specs.Kept.{sites_in}
use Rattle.base_reloc.specs.Laws.{SitesAreEntries}
use Rattle.virtual_map.specs.States.{Runtime, SameParts}
use Rattle.map_transition.specs.Images.{HasSites}
use Rattle.map_transition.specs.Laws.{StayTouched}
use Rattle.image_services.specs.declared.refusal.LoadRefusal.{LoadRefusal}
use Rattle.image_services.specs.declared.refusal.LoadRefusal.TheVariants as refusals
use Rattle.image_services.specs.Views.{Leaves}
use Rattle.image_services.specs.Blocks.{block_type, block_size, code_type}
use Rattle.image_services.specs.Images.{Loaded}
use Rattle.image_services.specs.Kept.{kept_image}
use Rattle.image_services.specs.Laws.{AreInOrder, OrderStays}
use Rattle.image_services.specs.Stores.{Store}
use Rattle.image_services.specs.Placing.{page_count, with_section_rights, with_image_rights, rights_in, readable, placed}
use Rattle.image_services.specs.Loads.{kind_for, with_image_pages, Place, with_new_page, touched_for, loaded_memory, loaded_image, Load}
use Rattle.runtime_whole.specs.Boots.{IsPlaced, image_page, HasPages, ShareNone, BootWhole, with_store, StoreWhole}
use Rattle.runtime_whole.specs.Guards.{is_guarded, LeavesGuarded}
use Rattle.runtime_whole.specs.Laws.{LoadsKeep}
use Rattle.runtime_whole.proofs.ListLemmas.{set_keeps, still_there}
use Rattle.runtime_whole.proofs.MarkLemmas.{Grows, grows_on, reserved_grows, stay_marked, is_marked, is_held, reserved_keeps, reserved_marks}
use Rattle.runtime_whole.proofs.PageLemmas.{has_page, in_run, changed_base, changed_long, changed_inside, not_conventional, given_stay, given_free, Fits, given_fits}
use Rattle.runtime_whole.proofs.PoolLemmas.{Took, took}
use Rattle.runtime_whole.proofs.SiteLemmas.{AreBytes, placed_small, moved_small, words_fit, sites_few, values_long}
use Rattle.runtime_whole.proofs.LoadParts.{HasLoaded, has_loaded}
use Rattle.runtime_whole.proofs.BootLemmas.{guarded, spread, writes as writes_whole}

-- ---- memory

-- at most bytes and rights differ
record SameMarks (a b : Pages) : Type 0 where
  base : b.base ≡ a.base
  count : b.pages ≡ a.pages
  touched : b.touched ≡ a.touched

sections_same : (m : Pages) (first : ℕ) (sections : List Section) → SameMarks m (with_section_rights m first sections)
sections_same m first [] = record { base = refl; count = refl; touched = refl }
sections_same m first (section ∷ sections) =
    let h = sections_same (with_rights m (first + section.at / 4096) ((section.at + section.len + 4095) / 4096 - section.at / 4096) (rights_in section.rights)) first sections in
    record { base = h.base; count = h.count; touched = h.touched }

rights_same : (m : Pages) (first : ℕ) (image : Fields) → SameMarks m (with_image_rights m first image)
unfolding with_image_rights
rights_same m first image = by (nat_lt image.alignment 4096)
  where
    by : (b : Bool) → SameMarks m (if b then with_rights m first (page_count image) all_rights else with_section_rights (with_rights m first (page_count image) readable) first image.sections)
    by true = record { base = refl; count = refl; touched = refl }
    by false = let h = sections_same (with_rights m first (page_count image) readable) first image.sections in record { base = h.base; count = h.count; touched = h.touched }

new_same : (m : Pages) (new : Option PageSpan) → SameMarks m (with_new_page m new)
new_same m None = record { base = refl; count = refl; touched = refl }
new_same m (Some span) = record { base = refl; count = refl; touched = refl }

same_stay : (a b : Pages) → SameMarks a b → StayTouched a b
same_stay a b h page e = subst (λ (marks : List Bool). or_false (slice_get marks page) ≡ true) (sym h.touched) e

same_grows : (a b : Pages) → SameMarks a b → Grows a b
same_grows a b h = record { base = h.base; count = h.count; stay = same_stay a b h }

module _ (m : Pages) (place : Place) (image : Fields) (bytes block : List ℕ) where
  touched : Pages
  touched = touched_for m place image

  cleaned : Pages
  cleaned = with_new_page touched place.new

  written : Pages
  written = written_pages cleaned (page_of m place.base) bytes

  righted : Pages
  righted = with_image_rights written (page_of m place.base) image

  touches : Grows m touched
  unfolding touched
  touches = grows_on m (reserved m (page_of m place.block) 1) touched (reserved_grows m (page_of m place.block) 1) (reserved_grows (reserved m (page_of m place.block) 1) (page_of m place.base) (page_count image))

  writes : Grows touched (loaded_memory m place image bytes block)
  unfolding loaded_memory cleaned written righted touched
  writes =
      let a = same_grows touched cleaned (new_same touched place.new) in
      let b : Grows cleaned written = record { base = refl; count = refl; stay = reserved_keeps cleaned (page_of m place.base) (length bytes / 4096) } in
      let c = same_grows written righted (rights_same written (page_of m place.base) image) in
      let d : Grows righted (loaded_memory m place image bytes block) = record { base = refl; count = refl; stay = λ page e. set_keeps righted.touched (page_of righted place.block) page e } in
      grows_on touched cleaned (loaded_memory m place image bytes block) a (grows_on cleaned written (loaded_memory m place image bytes block) b (grows_on written righted (loaded_memory m place image bytes block) c d))

  grows : Grows m (loaded_memory m place image bytes block)
  grows = grows_on m touched (loaded_memory m place image bytes block) touches writes

  -- the pages of the image are touched
  marks : (k : ℕ) → page_of m place.base ≤ k → k < page_of m place.base + page_count image → k < length m.touched → is_touched (loaded_memory m place image bytes block) k ≡ true
  unfolding touched
  marks k low high l = writes.stay k (reserved_marks (reserved m (page_of m place.block) 1) (page_of m place.base) (page_count image) k low high (still_there m.touched (page_of m place.block) 1 k true l))

-- ---- the image

-- an image of a subsystem that is one has pages that aren't conventional
code_proper : (image : Fields) → is_subsystem image.subsystem ≡ true → (code_type image.subsystem == 7) ≡ false
code_proper image h =
    let low : 10 ≤ image.subsystem = grind (arith, nat_tests) in
    let high : image.subsystem ≤ 12 = grind (arith, nat_tests) in
    grind (arith, nat_tests)

byte_is : (bytes : List ℕ) → All (λ (byte : ℕ). byte < 256) bytes → AreBytes bytes
byte_is [] all k = omega arith
byte_is (byte ∷ bytes) all zero = all 0 byte (omega arith)
byte_is (byte ∷ bytes) all (suc k) = byte_is bytes (λ i d l. all (suc i) d (omega (arith, l))) k

abbrev pub ImagesAreSound : Type 0
ImagesAreSound = (file : List ℕ) (image : Fields) → image_of file ≡ Ok image → IsImage image

abbrev pub SitesAreSound : Type 0
SitesAreSound = (image : Fields) (bytes : List ℕ) (sites : List Site) → sites_in image bytes ≡ Ok sites → AreSites image.size sites

with_image : (r : Runtime) (images : List Loaded) (made later : ℕ) (x : Loaded) → BootWhole r images made → IsPlaced r x → All (λ (i : Loaded). ShareNone i x) images → length images < 16 → AreInOrder (images ++ x ∷ []) later → BootWhole r (images ++ x ∷ []) later
with_image r images made later x b placed none few order = record {
  ram = b.ram;
  places = b.places;
  view = b.view;
  gone = b.gone;
  mapped = b.mapped;
  placed = All-push (IsPlaced r) images x b.placed placed;
  apart = all_pairs_push ShareNone images x b.apart none;
  few = let long = length-append images (x ∷ []) in omega (arith, long, few);
  order = order;
  arguments = b.arguments;
}

module _ (leave : CallsLeaveOthers) (sound : ImagesAreSound) (in_image : SitesAreSound) (entries : SitesAreEntries) (r : Runtime) (s : Store) (file : List ℕ) (load : Load) (b : StoreWhole r s) (wp : pages.Whole s.pages) (wm : memory.Whole s.memory)
    (all : AreBytes file) (h : HasLoaded s file load) where
  abbrev old : Runtime
  old = with_store r s

  abbrev new : Runtime
  new = with_store r load.after

  abbrev count : ℕ
  count = page_count h.image

  abbrev base : ℕ
  base = h.place.base

  abbrev x : Loaded
  x = loaded_image h.place h.image h.bytes h.sites h.handle

  is_image : IsImage h.image
  is_image = sound file h.image h.is_image

  fits : Fits s.pages base count
  fits = given_fits s.pages (kind_for h.image.stripped) (code_type h.image.subsystem) count h.image.image_base base h.lies.given

  -- ---- pages

  abbrev given : PageList
  given = with_image_pages s.pages h.image base

  pool_took : Took given load.after.pages
  pool_took = subst (Took given) (sym (h.pages ∙ h.lies.pages)) (took leave s.pool given block_type block_size h.lies.done h.lies.block)

  map_base : load.after.pages.base ≡ s.pages.base
  map_base = pool_took.base ∙ changed_base s.pages base count (image_page x)

  map_count : length load.after.pages.pages ≡ length s.pages.pages
  map_count = pool_took.long ∙ changed_long s.pages base count (image_page x) fits.inside

  page_stays : (at : ℕ) (page : Page) → page_at s.pages at ≡ Some page → is_guarded page.owner ≡ true → page_at load.after.pages at ≡ Some page
  page_stays at page e g =
      let free = not_conventional s.pages at page wp e g in
      pool_took.others at page (given_stay leave s.pages owners.Image (kind_for h.image.stripped) (code_type h.image.subsystem) count h.image.image_base base at page h.lies.given e free) free

  even : s.pages.base % 4096 ≡ 0
  even = wp.ram.on_page

  on_page : base % 4096 ≡ 0
  on_page = let on = fits.on_page in let low = fits.low in let e = even in omega (arith, on, low, e)

  -- an address in the image's pages
  own_page : HasPages load.after.pages x
  own_page = λ at from to.
      let low = fits.low in
      let inside = fits.inside in
      let on = on_page in
      let e = even in
      let was = has_page s.pages at (omega (arith, low, from)) (omega (arith, low, inside, to, on, e)) in
      let run = in_run s.pages base count at even on_page fits.low from to in
      pool_took.others at (image_page x) (changed_inside s.pages base count at was.0 (image_page x) was.1 run) (code_proper h.image is_image.subsystem)

  -- no guarded page is in them
  none_guarded : (at : ℕ) (page : Page) → page_at s.pages at ≡ Some page → is_guarded page.owner ≡ true → base ≤ at → at < base + 4096 * count → ⊥
  none_guarded at page e g from to =
      given_free leave s.pages (kind_for h.image.stripped) (code_type h.image.subsystem) count h.image.image_base base at page wp h.lies.given e g (in_run s.pages base count at even on_page fits.low from to)

  -- ---- memory

  memory_grows : Grows s.memory load.after.memory
  memory_grows = subst (Grows s.memory) (sym h.memory) (grows s.memory h.place h.image h.bytes h.block)

  leaves : LeavesGuarded old new
  leaves = record {
    layout = refl;
    ram = record {
      is_layout = b.ram.is_layout;
      base = memory_grows.base ∙ b.ram.base;
      count = memory_grows.count ∙ b.ram.count;
      map_base = map_base ∙ b.ram.map_base;
      map_count = map_count ∙ b.ram.map_count;
    };
    view = refl;
    gone = refl;
    mapped = refl;
    pages = λ at page g. page_stays at page g.0 g.1;
    touched = λ at page g t. stay_marked s.memory load.after.memory memory_grows.base memory_grows.count memory_grows.stay at t;
  }

  image_touched : (at : ℕ) → base ≤ at → at < base + 4096 * count → touched_at load.after.memory at ≡ true
  image_touched at from to =
      let low = fits.low in
      let inside = fits.inside in
      let on = on_page in
      let e = even in
      let same_base : s.memory.base ≡ s.pages.base = b.ram.base ∙ sym b.ram.map_base in
      let same_count : length s.pages.pages ≡ s.memory.pages = b.ram.map_count ∙ sym b.ram.count in
      let long = wm.touched_long in
      let mark : is_touched (loaded_memory s.memory h.place h.image h.bytes h.block) ((at - s.memory.base) / 4096) ≡ true = marks s.memory h.place h.image h.bytes h.block ((at - s.memory.base) / 4096) (omega (arith, same_base, low, from)) (omega (arith, same_base, low, from, to, on, e)) (omega (arith, same_base, same_count, long, low, inside, from, to, on, e)) in
      stay_marked (loaded_memory s.memory h.place h.image h.bytes h.block) load.after.memory (ap (λ (m : Pages). m.base) h.memory) (ap (λ (m : Pages). m.pages) h.memory) (λ page t. subst (λ (m : Pages). is_touched m page ≡ true) (sym h.memory) t) at
      (is_marked (loaded_memory s.memory h.place h.image h.bytes h.block) at
      (is_held (loaded_memory s.memory h.place h.image h.bytes h.block) at (let g = (grows s.memory h.place h.image h.bytes h.block).base in omega (arith, g, same_base, low, from)) (let g = (grows s.memory h.place h.image h.bytes h.block).base in let c = (grows s.memory h.place h.image h.bytes h.block).count in omega (arith, g, c, same_base, same_count, low, inside, from, to, on, e)))
      (subst (λ (n : ℕ). is_touched (loaded_memory s.memory h.place h.image h.bytes h.block) ((at - n) / 4096) ≡ true) (sym (grows s.memory h.place h.image h.bytes h.block).base) mark))

  -- ---- sites

  size_fits : h.image.size ≤ 4096 * count
  size_fits = omega arith

  sites : AreSites h.image.size h.sites
  sites = in_image h.image (placed h.image file) h.sites h.are_sites

  few_sites : length h.sites < 2 ^ 32
  few_sites =
      let few = sites_few entries h.image (placed h.image file) h.sites h.are_sites in
      let long = values_long (placed_byte h.image file) 0 (in_pages h.image.size) in
      let small = is_image.small in
      omega (arith, few, long, small)

  bytes_small : AreBytes h.bytes
  bytes_small = moved_small (placed h.image file) h.bytes h.sites h.by (placed_small h.image file all) h.moves

  has_sites : HasSites load.after.memory (kept_image x)
  has_sites = record {
    sites = record { inside = λ k d l. (let i = sites.inside k d l in let f = size_fits in omega (arith, i, f)); apart = sites.apart };
    words = record { few = few_sites; fit = words_fit h.bytes h.sites bytes_small };
    marks = length-replicate (length h.sites) false;
    touched = λ k d l at from to. (let i = sites.inside k d l in let f = size_fits in image_touched at (omega (arith, from)) (omega (arith, to, i, f)));
  }

  -- ---- the image in its place

  below_slots : base + 4096 * count ≤ r.layout.slots
  below_slots =
      let p = spread r.layout b.ram.is_layout in
      let low = fits.low in
      let inside = fits.inside in
      let some = fits.some in
      let on = on_page in
      let e = even in
      let mb = b.ram.map_base in
      let mc = b.ram.map_count in
      elim (leb_tells (base + 4096 * count) r.layout.slots) [
        | inl l ↦ l.1
        | inr l ↦ absurd (let over = l.1 in none_guarded r.layout.slots (firmware 5) (b.places.slots r.layout.slots (omega arith) (omega arith)) refl (omega (arith, p.slots, low, inside, some, on, e, mb, mc)) over)
      ]

  x_placed : IsPlaced new x
  x_placed = record {
    on_page = on_page;
    low = let low = fits.low in let mb = b.ram.map_base in omega (arith, low, mb);
    high = below_slots;
    pages = own_page;
    sites = has_sites;
  }

  none_shared : All (λ (i : Loaded). ShareNone i x) s.images
  none_shared = λ k d l at from to low high. none_guarded at (image_page (get_or s.images k d)) ((b.placed k d l).pages at from to) refl low high

  loaded : AreInOrder load.after.images load.after.protocols.handles.made → StoreWhole r load.after
  loaded order =
      let kept = guarded old new s.images s.protocols.handles.made b leaves in
      let made = load.after.protocols.handles.made in
      subst (λ (images : List Loaded). BootWhole new images made) (sym h.images)
      (with_image new s.images s.protocols.handles.made made x kept x_placed none_shared h.few (subst (λ (images : List Loaded). AreInOrder images made) h.images order))

-- ---- a call that loads, however it ends

marks_added : (r : Runtime) (s after : Store) → StoreWhole r s → after ≡ record s { memory = after.memory } → TouchedBesides s.memory after.memory → StoreWhole r after
marks_added r s after b e t =
    let same : SameParts (with_store r s) (with_store r (record s { memory = after.memory })) =
    record { layout = refl; base = ap (λ (m : Pages). m.base) t.rest; count = ap (λ (m : Pages). m.pages) t.rest; map = refl; view = refl; descriptors = refl; kept = refl; notifies = refl; gone = refl; mapped = refl; os_virtual = refl; room = refl } in
    let kept : StoreWhole r (record s { memory = after.memory }) = writes_whole (with_store r s) (with_store r (record s { memory = after.memory })) s.images s.protocols.handles.made b same t.kept in
    subst (StoreWhole r) (sym e) kept

unchanged : (r : Runtime) (s after : Store) → StoreWhole r s → after ≡ s → StoreWhole r after
unchanged r s after b e = subst (StoreWhole r) (sym e) b

refused : (r : Runtime) (s after : Store) (refusal : LoadRefusal) → StoreWhole r s → Leaves refusal s after → StoreWhole r after
refused r s after refusals.Memory b h = marks_added r s after b h.0 h.1
refused r s after refusals.TooMany b h = unchanged r s after b h
refused r s after (refusals.Pe fault) b h = unchanged r s after b h
refused r s after (refusals.Reloc fault) b h = unchanged r s after b h
refused r s after refusals.Placed b h = unchanged r s after b h
refused r s after refusals.NoPages b h = unchanged r s after b h
refused r s after refusals.Full b h = unchanged r s after b h
refused r s after refusals.Frames b h = unchanged r s after b h

pub loads : CallsLeaveOthers → ImagesAreSound → SitesAreSound → SitesAreEntries → OrderStays → LoadsKeep
loads leave sound in_image entries order r s after file parent also (Ok done) b wp wm all e =
    let load : Load = record { answer = done; after = after } in
    loaded leave sound in_image entries r s file load b wp wm (byte_is file all) (has_loaded r.layout s file parent also load e) (order.load r.layout s file parent also load b.order e)
loads leave sound in_image entries order r s after file parent also (Err refusal) b wp wm all e = refused r s after refusal b e.1
