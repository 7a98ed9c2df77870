-- Boot services end.
use Rattle.std.proofs.Common.{◌≡◌, ℕ, zero, suc, ◌+◌, ◌-◌, ◌/◌, ◌≤◌, ◌<◌, Bool, true, false, List, [], ◌∷◌, length, length-append, get_or, refl, sym, ap, subst, ◌∙◌, arith, Some}
use Rattle.std.specs.Prelude.{◌==◌, ◌&&◌, ◌||◌, nat_lt, map, if◌then◌else◌}
use Rattle.std.specs.List.{All, AllPairs, filter}
use Rattle.std.proofs.lemmas.Bool.Decides.{nat_tests}
use Rattle.std.proofs.lemmas.List.{get_or-map, length-map}
use Rattle.std.proofs.lemmas.List.Elements.{All-map, All-filter, filter_passes}
use Rattle.std.proofs.lemmas.List.Kept.{AllPairs-filter}
use Rattle.guest_memory.specs.Pages.{Pages, page_of}
use Rattle.guest_memory.specs.Pages as memory
use Rattle.memory_map.specs.declared.descriptor.Descriptor.{Descriptor}
use Rattle.address_view.specs.declared.view.Window.{Window}
use Rattle.memory_map.specs.Map.{map_of}
use Rattle.page_alloc.specs.declared.layout.Layout.{Layout}
use Rattle.event_queue.specs.declared.event.Event.{Event}
use Rattle.event_queue.specs.Kinds.{virtual_group}
use Rattle.event_queue.specs.Queue.{EventList, is_kept, call_of, level_calls, falling, kept_calls}
use Rattle.event_queue.specs.Queue as events
use Rattle.map_faults.specs.Rules.{is_runtime}
use Rattle.virtual_map.specs.States.{Runtime}
use Rattle.runtime_view.specs.Views.{runtime_windows, os_window, ranges_between, view_after, window_count}
use Rattle.boot_exit.specs.Exits.{with_room, exit_finished}
use Rattle.map_transition.specs.Images.{AreApart, AreTouched}
use Rattle.map_transition.specs.Laws.{PlacesHaveTypes, StayTouched}
use Rattle.map_transition.specs.Wholes.{Whole, IsImage, HasView, type_of}
use Rattle.image_services.specs.Blocks.{code_type}
use Rattle.image_services.specs.Images.{Loaded}
use Rattle.image_services.specs.Kept.{is_runtime_driver, kept_image, kept_drivers}
use Rattle.runtime_whole.specs.Boots.{IsPlaced, ShareNone, BootWhole}
use Rattle.runtime_whole.specs.Ends.{boot_ended}
use Rattle.runtime_whole.specs.Laws.{EndIsWhole}
use Rattle.runtime_whole.proofs.ListLemmas.{few_left, set_keeps}
use Rattle.runtime_whole.proofs.MarkLemmas.{is_held, is_marked, stay_marked, reserved_keeps, reserved_marks}
use Rattle.runtime_whole.proofs.BootLemmas.{spread}

-- ---- counts

abbrev below : ℕ → Event → Bool
below tpl event = nat_lt event.tpl tpl

abbrev level_is : ℕ → Event → Bool
level_is tpl event = event.tpl == tpl

next_level : (tpl : ℕ) (list : List Event) → length (filter (level_is tpl) list) + length (filter (below tpl) list) ≡ length (filter (below (suc tpl)) list)
next_level tpl [] = refl
next_level tpl (e ∷ es) = by (e.tpl == tpl) (nat_lt e.tpl tpl) (nat_lt e.tpl (suc tpl)) (grind (arith, nat_tests)) (grind (arith, nat_tests)) (next_level tpl es)
  where
    by : (same under next : Bool) → next ≡ (same || under) → (same && under) ≡ false → length (filter (level_is tpl) es) + length (filter (below tpl) es) ≡ length (filter (below (suc tpl)) es)
        → length (if same then e ∷ filter (level_is tpl) es else filter (level_is tpl) es) + length (if under then e ∷ filter (below tpl) es else filter (below tpl) es)
        ≡ length (if next then e ∷ filter (below (suc tpl)) es else filter (below (suc tpl)) es)
    by true true next h k r = let bad : ⊥ = cc in absurd bad
    by true false true h k r = omega (arith, r)
    by true false false h k r = let bad : ⊥ = cc in absurd bad
    by false true true h k r = omega (arith, r)
    by false true false h k r = let bad : ⊥ = cc in absurd bad
    by false false true h k r = let bad : ⊥ = cc in absurd bad
    by false false false h k r = r

fallen : (tpl : ℕ) (list : List Event) → length (falling tpl list) ≤ length (filter (below tpl) list)
unfolding falling
fallen zero list = omega arith
fallen (suc tpl) list =
    let one : length (level_calls tpl list) ≡ length (filter (level_is tpl) list) = length-map (filter (level_is tpl) list) call_of in
    let both = length-append (level_calls tpl list) (falling tpl list) in
    let rest = fallen tpl list in
    let sum = next_level tpl list in
    omega (arith, one, both, rest, sum)

few_calls : (s : EventList) → events.Whole s → length (kept_calls s.events virtual_group) ≤ 256
unfolding kept_calls
few_calls s w =
    let few = w.few in
    let kept = few_left (is_kept virtual_group) s.events in
    let low = few_left (below 31) (filter (is_kept virtual_group) s.events) in
    let all = fallen 31 (filter (is_kept virtual_group) s.events) in
    omega (arith, few, kept, low, all)

-- ---- windows

as_many : (entries ds : List Descriptor) → length (runtime_windows entries ds) ≡ length (filter is_runtime ds)
unfolding runtime_windows
as_many entries [] = refl
as_many entries (d ∷ ds) = by (is_runtime d) _ (as_many entries ds)
  where
    by : (b : Bool) (w : Window) → length (runtime_windows entries ds) ≡ length (filter is_runtime ds)
        → length (if b then w ∷ runtime_windows entries ds else runtime_windows entries ds) ≡ length (if b then d ∷ filter is_runtime ds else filter is_runtime ds)
    by true w h = ap suc h
    by false w h = h

windows_fit : (layout : Layout) (ds entries : List Descriptor) (os_virtual : ℕ) → length (view_after layout ds entries os_virtual) ≤ window_count layout ds
unfolding view_after window_count
windows_fit layout ds entries os_virtual =
    let one = as_many entries ds in
    let both = length-append (runtime_windows entries ds) (os_window layout os_virtual ∷ ranges_between layout layout.base ds) in
    omega (arith, one, both)

-- ---- images

nobody : Loaded
nobody = record { handle = 0; base = 0; pages = 0; subsystem = 0; entry = 0; block = 0; started = false; sites = []; words = [] }

apart_as_kept : (a b : Loaded) → a.handle < b.handle → ShareNone a b → AreApart (kept_image a) (kept_image b)
apart_as_kept a b l h = record { handles = λ e. absurd (omega (arith, e, l)); pages = h }

all_apart : (xs : List Loaded) → AllPairs (λ (a b : Loaded). a.handle < b.handle) xs → AllPairs ShareNone xs → AllPairs AreApart (map kept_image xs)
all_apart xs rise none = λ i j d before inside.
    let long : length (map kept_image xs) ≡ length xs = length-map xs kept_image in
    let last : j < length xs = omega (arith, long, inside) in
    rw (get_or-map kept_image xs i nobody d (omega (arith, before, last)), get_or-map kept_image xs j nobody d last)
    (apart_as_kept (get_or xs i nobody) (get_or xs j nobody) (rise i j nobody before last) (none i j nobody before last))

code_is : (image : Loaded) → is_runtime_driver image ≡ true → code_type image.subsystem ≡ 5
code_is image h = let e : image.subsystem ≡ 12 = grind (arith, nat_tests) in ap code_type e

module _ (r : Runtime) (images : List Loaded) (made : ℕ) (s : EventList) (b : BootWhole r images made) (w : memory.Whole r.memory) where
  abbrev after : Runtime
  after = boot_ended r images s

  keeps : StayTouched r.memory after.memory
  unfolding exit_finished
  keeps page h = set_keeps (with_room r.layout r.memory).touched (page_of r.memory r.layout.system) page (reserved_keeps r.memory (page_of r.memory r.layout.system) 1 page h)

  base : after.memory.base ≡ r.memory.base
  unfolding exit_finished
  base = refl

  count : after.memory.pages ≡ r.memory.pages
  unfolding exit_finished
  count = refl

  stays : (at : ℕ) → memory.touched_at r.memory at ≡ true → memory.touched_at after.memory at ≡ true
  stays = stay_marked r.memory after.memory base count keeps

  stays_kept : (image : Loaded) → IsPlaced r image → is_runtime_driver image ≡ true → IsImage after (kept_image image)
  stays_kept image p is = record {
    on_page = p.on_page;
    low = p.low;
    high = p.high;
    types = λ at low high. ap type_of (p.pages at low high) ∙ ap Some (code_is image is);
    sites = record {
      sites = p.sites.sites;
      words = p.sites.words;
      marks = p.sites.marks;
      touched = λ k d l at low high. stays at (p.sites.touched k d l at low high);
    };
  }

  abbrev drivers : List Loaded
  drivers = filter is_runtime_driver images

  all_kept : All (IsImage after) (kept_drivers images)
  all_kept = All-map (IsImage after) kept_image drivers (λ k d l. stays_kept (get_or drivers k d) (All-filter is_runtime_driver (IsPlaced r) images b.placed k d l) (filter_passes is_runtime_driver images k d l))

  kept_apart : AllPairs AreApart (kept_drivers images)
  kept_apart = all_apart drivers (AllPairs-filter (λ (a b : Loaded). a.handle < b.handle) is_runtime_driver images b.order.rise) (AllPairs-filter ShareNone is_runtime_driver images b.apart)

  system_touched : AreTouched after.memory r.layout.system r.layout.slots
  unfolding exit_finished
  system_touched = λ at low high.
      let p = spread r.layout b.ram.is_layout in
      let same : (at - r.memory.base) / 4096 ≡ page_of r.memory r.layout.system = omega (arith, b.ram.base, p.system, p.slots, p.some, p.even, low, high) in
      let inside : (at - r.memory.base) / 4096 < r.memory.pages = omega (arith, b.ram.base, b.ram.count, p.slots, p.some, high) in
      let long = w.touched_long in
      is_marked after.memory at (is_held after.memory at (omega (arith, b.ram.base, p.system, p.some, low)) (omega (arith, b.ram.base, b.ram.count, p.slots, high)))
      (set_keeps (with_room r.layout r.memory).touched (page_of r.memory r.layout.system) ((at - r.memory.base) / 4096)
      (reserved_marks r.memory (page_of r.memory r.layout.system) 1 ((at - r.memory.base) / 4096) (omega (arith, same)) (omega (arith, same)) (omega (arith, inside, long))))

  few_kept : length (kept_drivers images) ≤ 16
  few_kept = let long = length-map drivers kept_image in let less = few_left is_runtime_driver images in let few = b.few in omega (arith, long, less, few)

  few_after : events.Whole s → length after.notifies ≤ 256
  unfolding exit_finished
  few_after e = few_calls s e

  ended : PlacesHaveTypes → events.Whole s → Whole after
  ended types e = record {
    ram = record { is_layout = b.ram.is_layout; base = base ∙ b.ram.base; count = count ∙ b.ram.count; map_base = b.ram.map_base; map_count = b.ram.map_count };
    places = types r.layout r.pages b.places;
    view = subst (λ (m : Bool). HasView m after) (sym b.mapped) b.view;
    images = all_kept;
    apart = kept_apart;
    few_images = few_kept;
    few_functions = few_after e;
    descriptors = λ gone. refl;
    room = λ gone unmapped entries. windows_fit r.layout (map_of r.pages) entries r.os_virtual;
    arguments = λ at low high. stays at (b.arguments at low high);
    system = system_touched;
  }

pub end_whole : PlacesHaveTypes → EndIsWhole
end_whole types r images made s b w e = ended r images made s b w types e
