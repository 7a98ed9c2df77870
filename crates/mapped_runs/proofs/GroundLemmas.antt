-- What follows where a state is whole.
use Rattle.std.proofs.Common.{◌≡◌, ℕ, ◌+◌, ◌*◌, ◌%◌, ◌≤◌, ◌<◌, Bool, true, false, List, length, refl, sym, ap, subst, ◌∙◌, arith, Some, None}
use Rattle.std.specs.Prelude.{◌^◌, not, slice_get, Option, if◌then◌else◌}
use Rattle.page_alloc.specs.declared.layout.Layout.{Layout}
use Rattle.page_alloc.specs.declared.page.Page.{Page}
use Rattle.page_alloc.specs.Layout.{IsLayout, layout_at}
use Rattle.page_alloc.specs.Pages.{page_at}
use Rattle.memory_map.specs.declared.descriptor.Descriptor.{Descriptor}
use Rattle.memory_map.specs.Map.{Covers, descriptor_of, map_of, attribute_of, IsDescribed}
use Rattle.memory_map.specs.Laws.{MapIsMap}
use Rattle.map_faults.specs.declared.fault.MapFault.{MapFault}
use Rattle.map_faults.specs.Grounds.{Call, IsGround, window_pages}
use Rattle.map_faults.specs.Rules.{is_runtime, behind}
use Rattle.map_faults.specs.Faults.{call_fault, first_fault, or_next}
use Rattle.virtual_map.specs.States.{Runtime}
use Rattle.runtime_turn.specs.Functions.{ground_of}
use Rattle.runtime_view.specs.Views.{view_before}
use Rattle.map_transition.specs.Wholes.{HasView, Whole, type_of}
use Rattle.mapped_runs.proofs.MemberLemmas.{holder_is, is_held, some_same}

-- ---- the places of a layout

pub record Places (layout : Layout) : Type 0 where
  pub base : 4096 ≤ layout.base
  pub even : layout.base % 4096 ≡ 0
  pub low : layout.base ≤ layout.os_stack
  pub stack : layout.os_stack % 4096 ≡ 0
  pub arguments : layout.os_stack + 65536 ≡ layout.os_args
  pub back : layout.os_args + 65536 ≡ layout.os_return
  pub window : layout.os_stack + 4096 * window_pages ≡ layout.boot_stack
  pub boot : layout.boot_stack ≤ layout.system
  pub system : layout.system + 4096 ≡ layout.slots
  pub slots : layout.slots + 4096 ≡ layout.base + 4096 * layout.pages
  pub end : layout.base + 4096 * layout.pages ≤ 2 ^ 47

pub places : (layout : Layout) → IsLayout layout → Places layout
unfolding layout_at
places layout h =
    let is = h.places in
    let room = h.ram.room in
    let end = h.ram.end in
    let above = h.ram.above_zero in
    let even = h.ram.on_page in
    let stack : layout.os_stack ≡ (layout_at layout.base layout.pages).os_stack = ap (λ (x : Layout). x.os_stack) is in
    let arguments : layout.os_args ≡ (layout_at layout.base layout.pages).os_args = ap (λ (x : Layout). x.os_args) is in
    let back : layout.os_return ≡ (layout_at layout.base layout.pages).os_return = ap (λ (x : Layout). x.os_return) is in
    let boot : layout.boot_stack ≡ (layout_at layout.base layout.pages).boot_stack = ap (λ (x : Layout). x.boot_stack) is in
    let system : layout.system ≡ (layout_at layout.base layout.pages).system = ap (λ (x : Layout). x.system) is in
    let slots : layout.slots ≡ (layout_at layout.base layout.pages).slots = ap (λ (x : Layout). x.slots) is in
    record {
      base = omega (arith, above, even);
      even = even;
      low = omega (arith, stack, room);
      stack = omega (arith, stack, even, room);
      arguments = omega (arith, stack, arguments, room);
      back = omega (arith, back, arguments, room);
      window = omega (arith, stack, boot, room);
      boot = omega (arith, boot, system, room);
      system = omega (arith, slots, system, room);
      slots = omega (arith, slots, room);
      end = end;
    }

-- ---- an accepted map

unless : (b : Bool) (fault : MapFault) (rest : Option MapFault) → (if b then Some fault else rest) ≡ None → (b ≡ false) × (rest ≡ None)
unless true fault rest h = absurd cc
unless false fault rest h = (refl, h)

pub both_none : (a b : Option MapFault) → or_next a b ≡ None → (a ≡ None) × (b ≡ None)
both_none None b h = (refl, h)
both_none (Some fault) b h = absurd cc

-- boot services are over, and no map was made
pub record IsFirst (r : Runtime) : Type 0 where
  pub gone : r.gone ≡ true
  pub unmapped : r.mapped ≡ false

pub is_first : (r : Runtime) (call : Call) → first_fault (ground_of r) call ≡ None → IsFirst r
unfolding first_fault call_fault
is_first r call h =
    let a = unless (not r.gone) _ _ (both_none _ _ h).0 in
    let b = unless r.mapped _ _ a.1 in
    record { gone = known r.gone a.0; unmapped = b.0 }
  where
    known : (b : Bool) → not b ≡ false → b ≡ true
    known true e = refl
    known false e = absurd cc

-- before a map RAM is seen at its own addresses
pub view_is : (r : Runtime) (call : Call) → Whole r → first_fault (ground_of r) call ≡ None → r.view ≡ view_before r.layout
view_is r call w ok = subst (λ (b : Bool). HasView b r) (is_first r call ok).unmapped w.view

-- ---- the memory map

pub map_covers : (r : Runtime) → Whole r → r.gone ≡ true → MapIsMap → Covers r.layout.base (r.layout.base + 4096 * r.layout.pages) r.descriptors
map_covers r w g law =
    let c : Covers r.pages.base (r.pages.base + 4096 * length r.pages.pages) (map_of r.pages) = (law r.pages).covers in
    let base = w.ram.map_base in
    let count = w.ram.map_count in
    let list = w.descriptors g in
    let from : Covers r.layout.base (r.layout.base + 4096 * length r.pages.pages) (map_of r.pages) = subst (λ (b : ℕ). Covers b (b + 4096 * length r.pages.pages) (map_of r.pages)) base c in
    let to : Covers r.layout.base (r.layout.base + 4096 * r.layout.pages) (map_of r.pages) = subst (λ (n : ℕ). Covers r.layout.base (r.layout.base + 4096 * n) (map_of r.pages)) count from in
    subst (λ (ds : List Descriptor). Covers r.layout.base (r.layout.base + 4096 * r.layout.pages) ds) (sym list) to

pub ground_is : (r : Runtime) → Whole r → r.gone ≡ true → MapIsMap → IsGround (ground_of r)
ground_is r w g law = record {
  layout = w.ram.is_layout;
  covers = map_covers r w g law;
  few = w.few_images;
  kept = λ k d l. (w.images k d l).sites.words;
}

-- a descriptor has the memory type of each page that it holds, and the attribute of that type
pub record IsTyped (d : Descriptor) (memory_type : ℕ) : Type 0 where
  pub type : d.memory_type ≡ memory_type
  pub attribute : d.attribute ≡ attribute_of memory_type

typed_by : (at memory_type : ℕ) (page : Option Page) (found : Option Descriptor) (d : Descriptor) → IsDescribed at page found → type_of page ≡ Some memory_type → found ≡ Some d → IsTyped d memory_type
typed_by at memory_type None None d h t f = absurd cc
typed_by at memory_type None (Some e) d h t f = absurd h
typed_by at memory_type (Some page) None d h t f = absurd h
typed_by at memory_type (Some page) (Some e) d h t f =
    let same : e ≡ d = some_same e d f in
    let kind : page.memory_type ≡ memory_type = cc in
    subst (λ (x : Descriptor). IsTyped x memory_type) same (record { type = h.0 ∙ kind; attribute = h.3 ∙ ap attribute_of (h.0 ∙ kind) })

pub typed : (r : Runtime) → Whole r → r.gone ≡ true → MapIsMap → (i : ℕ) (d : Descriptor) (at memory_type : ℕ) → slice_get r.descriptors i ≡ Some d → d.start ≤ at → at < behind d.start d.pages
    → type_of (page_at r.pages at) ≡ Some memory_type → IsTyped d memory_type
typed r w g law i d at memory_type s low high t =
    let list = w.descriptors g in
    let found : descriptor_of (map_of r.pages) at ≡ Some d = subst (λ (ds : List Descriptor). descriptor_of ds at ≡ Some d) list
    (holder_is at r.layout.base (r.layout.base + 4096 * r.layout.pages) r.descriptors i d (map_covers r w g law) s (is_held at d low high)) in
    typed_by at memory_type (page_at r.pages at) (descriptor_of (map_of r.pages) at) d ((law r.pages).types at) t found

loader_data : (d : Descriptor) → d.attribute ≡ attribute_of 2 → is_runtime d ≡ true → ⊥
loader_data d e h = let bad : false ≡ true = rw e at h in cc

-- no runtime descriptor holds an address of the operating system's window
pub window_clear : (r : Runtime) → Whole r → r.gone ≡ true → MapIsMap → (i : ℕ) (d : Descriptor) (at : ℕ) → slice_get r.descriptors i ≡ Some d → is_runtime d ≡ true
    → r.layout.os_stack ≤ at → at < r.layout.boot_stack → d.start ≤ at → at < behind d.start d.pages → ⊥
window_clear r w g law i d at s run low high from to = loader_data d (typed r w g law i d at 2 s from to (w.places.os at low high)).attribute run
