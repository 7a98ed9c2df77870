-- A state stays whole.
use Rattle.std.proofs.Common.{◌≡◌, ℕ, suc, ◌+◌, ◌*◌, ◌-◌, ◌^◌, ◌<◌, Bool, true, false, List, [], ◌∷◌, ◌++◌, length, get_or, refl, sym, ap, subst, ◌∙◌, arith, Some, None}
use Rattle.std.specs.Prelude.{not, Option, if◌then◌else◌}
use Rattle.std.specs.List.{AllPairs}
use Rattle.std.proofs.lemmas.List.{get_or-map, length-map}
use Rattle.std.proofs.lemmas.List.Elements.{All-map}
use Rattle.base_reloc.specs.declared.site.Site.{Site}
use Rattle.memory_map.specs.declared.descriptor.Descriptor.{Descriptor}
use Rattle.page_alloc.specs.declared.layout.Layout.{Layout}
use Rattle.page_alloc.specs.Layout.{IsLayout, layout_at, end_of}
use Rattle.guest_memory.specs.Pages.{Pages, bytes_of, holds, is_touched, page_of, touched_at}
use Rattle.map_faults.specs.declared.fault.MapFault.{MapFault}
use Rattle.map_faults.specs.Grounds.{Kept, Ground, Call, WordsFit}
use Rattle.map_faults.specs.Faults.{or_next, call_fault, entry_fault, fault_of, entries_fault, window_fault, reloc_fault, fault_after, first_fault}
use Rattle.virtual_map.specs.States.{Runtime, SameParts}
use Rattle.runtime_turn.specs.Functions.{ground_of}
use Rattle.runtime_view.specs.Views.{view_before}
use Rattle.map_transition.specs.Images.{AreApart}
use Rattle.map_transition.specs.Wholes.{Whole, IsImage, HasView}
use Rattle.map_transition.specs.Fixes.{marks_of, marked, all_marked, with_fixed}
use Rattle.map_transition.specs.Transitions.{begun, words_moved, with_tables, tables_moved, seen_by}
use Rattle.map_transition.proofs.TouchedLemmas.{still_touched}
use Rattle.map_transition.proofs.RunLemmas.{Keeps, keeps_pages, only_memory}

-- ---- what an accepted map says of the call

unless : (b : Bool) (fault : MapFault) (rest : Option MapFault) → (if b then Some fault else rest) ≡ None → (b ≡ false) × (rest ≡ None)
unless true fault rest h = let bad : ⊥ = cc in absurd bad
unless false fault rest h = (refl, h)

both : (a b : Option MapFault) → or_next a b ≡ None → (a ≡ None) × (b ≡ None)
both None b h = (refl, h)
both (Some fault) b h = let bad : ⊥ = cc in absurd bad

must_be : (b : Bool) → not b ≡ false → b ≡ true
must_be true h = refl
must_be false h = let bad : ⊥ = cc in absurd bad

pub record InTime (r : Runtime) : Type 0 where
  pub gone : r.gone ≡ true
  pub first : r.mapped ≡ false

-- An accepted map comes once boot services are over, and is the first.
pub in_time : (r : Runtime) (call : Call) → first_fault (ground_of r) call ≡ None → InTime r
unfolding first_fault call_fault
in_time r call h =
    let c = (both (call_fault (ground_of r) call) (fault_after (ground_of r) call.entries) h).0 in
    let a = unless (not r.gone) _ _ c in
    let b = unless r.mapped _ _ a.1 in
    record { gone = must_be r.gone a.0; first = b.0 }

-- ---- marks change no fault

entries_same : (g : Ground) (kept : List Kept) (earlier es : List Descriptor) → entries_fault (record g { kept = kept }) earlier es ≡ entries_fault g earlier es
unfolding entries_fault entry_fault
entries_same g kept earlier [] = refl
entries_same g kept earlier (e ∷ es) = ap (λ (next : Option MapFault). or_next (fault_of g earlier (length earlier) e) next) (entries_same g kept (earlier ++ e ∷ []) es)

reloc_same : (bytes : ℕ → ℕ) (entries : List Descriptor) (n : ℕ) (kept : List Kept) → reloc_fault entries n (all_marked bytes kept) ≡ reloc_fault entries n kept
unfolding reloc_fault
reloc_same bytes entries n [] = refl
reloc_same bytes entries n (image ∷ images) = rw (reloc_same bytes entries (n + 1) images) refl

pub begun_fault : (r : Runtime) (call : Call) → first_fault (ground_of (begun r)) call ≡ first_fault (ground_of r) call
unfolding first_fault call_fault window_fault
begun_fault r call =
    let g = ground_of r in
    let a = entries_same g (all_marked (bytes_of r.memory) r.kept) [] call.entries in
    let b = reloc_same (bytes_of r.memory) call.entries 0 r.kept in
    rw (a, b) refl

marks_long : (bytes : ℕ → ℕ) (base : ℕ) (sites : List Site) (words : List ℕ) → WordsFit sites words → length (marks_of bytes base sites words) ≡ length sites
unfolding WordsFit marks_of
marks_long bytes base [] words h = refl
marks_long bytes base (site ∷ sites) [] h = absurd h
marks_long bytes base (site ∷ sites) (word ∷ words) h = ap suc (marks_long bytes base sites words h.1)

begun_image : (r : Runtime) (image : Kept) → IsImage r image → IsImage (begun r) (marked (bytes_of r.memory) image)
begun_image r image h = record {
  on_page = h.on_page;
  low = h.low;
  high = h.high;
  types = h.types;
  sites = record {
    sites = h.sites.sites;
    words = record { few = h.sites.words.few; fit = h.sites.words.fit };
    marks = marks_long (bytes_of r.memory) image.base image.sites image.words h.sites.words.fit;
    touched = h.sites.touched;
  };
}

begun_apart : (bytes : ℕ → ℕ) (kept : List Kept) → AllPairs AreApart kept → AllPairs AreApart (all_marked bytes kept)
begun_apart bytes kept h = λ i j d before below.
    let long : length (all_marked bytes kept) ≡ length kept = length-map kept (marked bytes) in
    let last : j < length kept = omega (arith, long, below) in
    let a = h i j d before last in
    rw (get_or-map (marked bytes) kept i d d (omega arith), get_or-map (marked bytes) kept j d d last) (record { handles = a.handles; pages = a.pages })

before_map : (r : Runtime) → Whole r → InTime r → r.view ≡ view_before r.layout
before_map r w t = subst (λ (b : Bool). HasView b r) t.first w.view

pub whole_begun : (r : Runtime) → Whole r → InTime r → Whole (begun r)
whole_begun r w t = record {
  ram = w.ram;
  places = w.places;
  view = subst (λ (b : Bool). HasView b (begun r)) (sym t.first) (before_map r w t);
  images = All-map (IsImage (begun r)) (marked (bytes_of r.memory)) r.kept (λ k d l. begun_image r (get_or r.kept k d) (w.images k d l));
  apart = begun_apart (bytes_of r.memory) r.kept w.apart;
  few_images = let long : length (all_marked (bytes_of r.memory) r.kept) ≡ length r.kept = length-map r.kept (marked (bytes_of r.memory)) in let few = w.few_images in omega (arith, long, few);
  few_functions = w.few_functions;
  descriptors = w.descriptors;
  room = w.room;
  arguments = w.arguments;
  system = w.system;
}

-- ---- the memory changes

view_memory : (b : Bool) (r : Runtime) (m : Pages) → HasView b r → HasView b (record r { memory = m })
view_memory false r m h = h
view_memory true r m h = (h.0, record { accepted = h.1.accepted; view = h.1.view })

image_memory : (r : Runtime) (m : Pages) (image : Kept) → Keeps r.memory m → IsImage r image → IsImage (record r { memory = m }) image
image_memory r m image keep h = record {
  on_page = h.on_page;
  low = h.low;
  high = h.high;
  types = h.types;
  sites = record { sites = h.sites.sites; words = h.sites.words; marks = h.sites.marks; touched = λ k d l at low high. keep at (h.sites.touched k d l at low high) };
}

pub whole_memory : (r : Runtime) (m : Pages) → Whole r → m.base ≡ r.memory.base → m.pages ≡ r.memory.pages → Keeps r.memory m → Whole (record r { memory = m })
whole_memory r m w base count keep = record {
  ram = record { is_layout = w.ram.is_layout; base = base ∙ w.ram.base; count = count ∙ w.ram.count; map_base = w.ram.map_base; map_count = w.ram.map_count };
  places = w.places;
  view = view_memory r.mapped r m w.view;
  images = λ k d l. image_memory r m (get_or r.kept k d) keep (w.images k d l);
  apart = w.apart;
  few_images = w.few_images;
  few_functions = w.few_functions;
  descriptors = w.descriptors;
  room = w.room;
  arguments = λ at low high. keep at (w.arguments at low high);
  system = λ at low high. keep at (w.system at low high);
}

pub whole_ran : (a b : Runtime) → Whole a → SameParts a b → Keeps a.memory b.memory → Whole b
whole_ran a b w h keep = subst (λ (r : Runtime). Whole r) (sym (only_memory a b h)) (whole_memory a b.memory w h.base h.count keep)

pub whole_words : (entries : List Descriptor) (r : Runtime) → Whole r → Whole (words_moved entries r)
unfolding touched_at
whole_words entries r w = whole_memory r (with_fixed entries r.kept r.memory) w refl refl (λ at h. h)

pub whole_tables : (entries : List Descriptor) (r : Runtime) → Whole r → Whole (tables_moved entries r)
whole_tables entries r w = whole_memory r (with_tables r.layout entries r.memory) w refl refl (keeps_pages r.memory (with_tables r.layout entries r.memory) refl refl (λ page h. still_touched r.memory r.layout.system page h))

-- ---- the map is made

seen_image : (entries : List Descriptor) (r : Runtime) (image : Kept) → IsImage r image → IsImage (seen_by entries r) image
seen_image entries r image h = record { on_page = h.on_page; low = h.low; high = h.high; types = h.types; sites = h.sites }

pub whole_seen : (r : Runtime) (call : Call) → Whole r → first_fault (ground_of r) call ≡ None → Whole (seen_by call.entries r)
whole_seen r call w h =
    let t = in_time r call h in
    record {
      ram = w.ram;
      places = w.places;
      view = (call, record { accepted = subst (λ (b : Bool). first_fault (record (ground_of r) { mapped = b }) call ≡ None) t.first h; view = refl });
      images = λ k d l. seen_image call.entries r (get_or r.kept k d) (w.images k d l);
      apart = w.apart;
      few_images = w.few_images;
      few_functions = w.few_functions;
      descriptors = w.descriptors;
      room = λ g no_map entries. let bad : ⊥ = cc in absurd bad;
      arguments = w.arguments;
      system = w.system;
    }

-- ---- places

slots_end : (layout : Layout) → IsLayout layout → layout.slots + 0x1000 ≡ layout.base + 4096 * layout.pages
unfolding layout_at
slots_end layout is =
    let room = is.ram.room in
    let e : layout.slots ≡ end_of layout.base layout.pages - 0x1000 = ap (λ (l : Layout). l.slots) is.places in
    omega arith

system_end : (layout : Layout) → IsLayout layout → layout.system + 0x2000 ≡ layout.base + 4096 * layout.pages
unfolding layout_at
system_end layout is =
    let room = is.ram.room in
    let e : layout.system ≡ end_of layout.base layout.pages - 0x2000 = ap (λ (l : Layout). l.system) is.places in
    omega arith

pub image_low : (r : Runtime) (image : Kept) → Whole r → IsImage r image → image.base < 2 ^ 63
image_low r image w h =
    let high = h.high in
    let end = slots_end r.layout w.ram.is_layout in
    let ram = w.ram.is_layout.ram.end in
    omega (arith, high, end, ram)

mark_by : (m : Pages) (at : ℕ) (b : Bool) → holds m at ≡ b → (if b then is_touched m (page_of m at) else false) ≡ true → is_touched m (page_of m at) ≡ true
mark_by m at true e h = h
mark_by m at false e h = let bad : ⊥ = cc in absurd bad

mark_of : (m : Pages) (at : ℕ) → touched_at m at ≡ true → is_touched m (page_of m at) ≡ true
unfolding touched_at
mark_of m at h = mark_by m at (holds m at) refl h

pub system_touched : (r : Runtime) → Whole r → is_touched r.memory (page_of r.memory r.layout.system) ≡ true
system_touched r w =
    let system = system_end r.layout w.ram.is_layout in
    let slots = slots_end r.layout w.ram.is_layout in
    mark_of r.memory r.layout.system (w.system r.layout.system (omega arith) (omega (arith, system, slots)))
