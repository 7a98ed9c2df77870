-- What follows where a state is whole.
use Rattle.std.proofs.Common.{◌≡◌, ℕ, zero, suc, ◌+◌, ◌*◌, ◌≤◌, true, false, List, [], ◌∷◌, length, sym, ap, subst, ◌∙◌, arith, Some, None}
use Rattle.std.specs.Prelude.{find, slice_get, Option}
use Rattle.std.proofs.lemmas.Bool.Decides.{nat_tests}
use Rattle.page_alloc.specs.declared.page.Page.{Page}
use Rattle.page_alloc.specs.Pages.{page_at}
use Rattle.memory_map.specs.declared.descriptor.Descriptor.{Descriptor}
use Rattle.memory_map.specs.Map.{Covers, holds, descriptor_of, map_of, attribute_of, IsDescribed}
use Rattle.memory_map.specs.Laws.{MapIsMap}
use Rattle.map_faults.specs.Grounds.{IsGround}
use Rattle.map_faults.specs.Rules.{is_runtime}
use Rattle.virtual_map.specs.States.{Runtime}
use Rattle.runtime_turn.specs.Functions.{ground_of}
use Rattle.runtime_view.specs.Views.{WindowIsClear}
use Rattle.map_transition.specs.Wholes.{Whole, type_of}

map_covers : (r : Runtime) → Whole r → r.gone ≡ true → MapIsMap → Covers r.layout.base (r.layout.base + 4096 * r.layout.pages) r.descriptors
map_covers r w g law =
    let c : Covers r.pages.base (r.pages.base + 4096 * length r.pages.pages) (map_of r.pages) = (law r.pages).covers in
    let base = w.ram.map_base in
    let count = w.ram.map_count in
    let list = w.descriptors g in
    let from : Covers r.layout.base (r.layout.base + 4096 * length r.pages.pages) (map_of r.pages) = subst (λ (b : ℕ). Covers b (b + 4096 * length r.pages.pages) (map_of r.pages)) base c in
    let to : Covers r.layout.base (r.layout.base + 4096 * r.layout.pages) (map_of r.pages) = subst (λ (n : ℕ). Covers r.layout.base (r.layout.base + 4096 * n) (map_of r.pages)) count from in
    subst (λ (ds : List Descriptor). Covers r.layout.base (r.layout.base + 4096 * r.layout.pages) ds) (sym list) to

pub ground_is : (r : Runtime) → Whole r → r.gone ≡ true → MapIsMap → IsGround (ground_of r)
ground_is r w g law = record {
  layout = w.ram.is_layout;
  covers = map_covers r w g law;
  few = w.few_images;
  kept = λ k d l. (w.images k d l).sites.words;
}

-- ---- the operating system's window holds no runtime descriptor

some_same : (d e : Descriptor) → Some d ≡ Some e → d ≡ e
some_same d e h = cc

starts_late : (from to : ℕ) (ds : List Descriptor) (i : ℕ) (d : Descriptor) → Covers from to ds → slice_get ds i ≡ Some d → from ≤ d.start
starts_late from to [] i d c s = let bad : ⊥ = cc in absurd bad
starts_late from to (e ∷ es) zero d c s = let same = some_same e d s in let start = c.0 in subst (λ (x : Descriptor). from ≤ x.start) same (omega (arith, start))
starts_late from to (e ∷ es) (suc i) d c s = let later = starts_late (from + 4096 * e.pages) to es i d c.2 s in omega (arith, later)

free_first : (at : ℕ) (e d : Descriptor) (from : ℕ) → e.start ≡ from → from + 4096 * e.pages ≤ d.start → holds at d ≡ true → holds at e ≡ false
free_first at e d from s l h = grind (arith, nat_tests)

holder_is : (at from to : ℕ) (ds : List Descriptor) (i : ℕ) (d : Descriptor) → Covers from to ds → slice_get ds i ≡ Some d → holds at d ≡ true → find (holds at) ds ≡ Some d
holder_is at from to [] i d c s h = let bad : ⊥ = cc in absurd bad
holder_is at from to (e ∷ es) zero d c s h =
    let same = some_same e d s in
    let held : holds at e ≡ true = subst (λ (x : Descriptor). holds at x ≡ true) (sym same) h in
    rw held s
holder_is at from to (e ∷ es) (suc i) d c s h =
    let free : holds at e ≡ false = free_first at e d from c.0 (starts_late (from + 4096 * e.pages) to es i d c.2 s) h in
    rw free (holder_is at (from + 4096 * e.pages) to es i d c.2 s h)

described_by : (at memory_type : ℕ) (page : Option Page) (found : Option Descriptor) (d : Descriptor) → IsDescribed at page found → type_of page ≡ Some memory_type → found ≡ Some d → d.attribute ≡ attribute_of memory_type
described_by at memory_type None None d h t f = let bad : ⊥ = cc in absurd bad
described_by at memory_type None (Some e) d h t f = absurd h
described_by at memory_type (Some page) None d h t f = absurd h
described_by at memory_type (Some page) (Some e) d h t f =
    let same : e ≡ d = some_same e d f in
    let kind : page.memory_type ≡ memory_type = cc in
    subst (λ (x : Descriptor). x.attribute ≡ attribute_of memory_type) same (h.3 ∙ ap attribute_of (h.0 ∙ kind))

loader_data : (d : Descriptor) → d.attribute ≡ attribute_of 2 → is_runtime d ≡ true → ⊥
loader_data d e h = let bad : false ≡ true = rw e at h in cc

pub window_clear : (r : Runtime) → Whole r → r.gone ≡ true → MapIsMap → WindowIsClear r.layout r.descriptors
window_clear r w g law = λ i d s run at low high from to.
    let list = w.descriptors g in
    let base = w.ram.map_base in
    let count = w.ram.map_count in
    let held : holds at d ≡ true = grind (arith, nat_tests) in
    let found : descriptor_of (map_of r.pages) at ≡ Some d = subst (λ (ds : List Descriptor). descriptor_of ds at ≡ Some d) list (holder_is at r.layout.base (r.layout.base + 4096 * r.layout.pages) r.descriptors i d (map_covers r w g law) s held) in
    loader_data d (described_by at 2 (page_at r.pages at) (descriptor_of (map_of r.pages) at) d ((law r.pages).types at) (w.places.os at low high) found) run
