-- The regions of a driver that stands end below 2^64, and its image is seen.
use Rattle.std.proofs.Common.{◌≡◌, ℕ, zero, suc, ◌≤◌, ◌<◌, ◌+◌, ◌-◌, ◌*◌, ◌^◌, arith, Bool, true, false, refl, sym, ap, subst, ◌∙◌, Option, Some, None, List, [], ◌∷◌, ◌++◌, length, length-append, get_or}
use Rattle.std.specs.Prelude.{◌&&◌, ◌==◌, map, nat_lt, if◌then◌else◌, slice_get, slice_index}
use Rattle.std.specs.List.{All, find}
use Rattle.std.proofs.lemmas.Bool.Decides.{nat_tests}
use Rattle.std.proofs.lemmas.List.{get_or_append_left, get_or_past, length-map}
use Rattle.std.proofs.lemmas.Option.{slice_get-get_or}
use Rattle.uh_base.specs.Bytes.{first_refused, next, number_at}
use Rattle.page_alloc.specs.declared.layout.Layout.{Layout}
use Rattle.page_alloc.specs.Layout.{IsLayout, layout_at}
use Rattle.memory_map.specs.declared.descriptor.Descriptor.{Descriptor}
use Rattle.memory_map.specs.Map.{Covers, map_of}
use Rattle.memory_map.specs.Map.{holds as holds_at}
use Rattle.memory_map.specs.Laws.{MapIsMap}
use Rattle.guest_memory.specs.Pages.{Pages, holds}
use Rattle.address_view.specs.Windows.{see, shows, window_at}
use Rattle.address_view.specs.Seen.{all_pass, is_seen}
use Rattle.map_faults.specs.Grounds.{Kept}
use Rattle.map_faults.specs.Rules.{behind, is_runtime}
use Rattle.map_faults.specs.Faults.{entry_at}
use Rattle.virtual_map.specs.States.{Runtime}
use Rattle.runtime_view.specs.Views.{view_before}
use Rattle.map_transition.specs.Wholes.{HasView, IsImage, Whole}
use Rattle.prov_types.specs.Kinds.{length_of}
use Rattle.prov_cert.specs.declared.cert.OwnRegion.{OwnRegion}
use Rattle.prov_cert.specs.declared.cert.CertSpan.{CertSpan}
use Rattle.provenance_check.specs.Ground.{End}
use Rattle.provenance_tables.specs.Regions.{address_of, bytes_in, fixed_starts, is_inside, lens_of, own_passes, region_passes, size_of, starts_of, with_own}
use Rattle.provenance_attest.specs.Frames.{AreInRam, IsInRam}
use Rattle.provenance_attest.proofs.Formed.{own_long}
use Rattle.provenance_attest.proofs.MarkLemmas.{all_in_ram}

-- ---- what is found

found_by : {X : Type 0} (P : X → Type 0) (test : X → Bool) (b : Bool) (y x : X) (rest : Option X) → test y ≡ b → P y → (rest ≡ Some x → P x × (test x ≡ true)) → (if b then Some y else rest) ≡ Some x → P x × (test x ≡ true)
found_by P test true y x rest t h k e = let same : y ≡ x = cc in (subst P same h, subst (λ z. test z ≡ true) same t)
found_by P test false y x rest t h k e = k e

-- what is found is one of the list, and passes the test
pub all_find : {X : Type 0} (P : X → Type 0) (test : X → Bool) (xs : List X) (x : X) → All P xs → find test xs ≡ Some x → P x × (test x ≡ true)
all_find P test [] x h e = absurd cc
all_find P test (y ∷ ys) x h e = found_by P test (test y) y x (find test ys) refl (h 0 y (omega arith)) (λ f. all_find P test ys x (λ k d l. h (suc k) d (omega (arith, l))) f) e

-- ---- the image

in_ram : (layout : Layout) (m : Pages) (at : ℕ) → m.base ≡ layout.base → m.pages ≡ layout.pages → layout.base ≤ at → at < layout.base + 4096 * layout.pages → is_seen (see (view_before layout)) m at ≡ true
unfolding window_at
in_ram layout m at b n low high =
    let s : shows (record { virt = layout.base; phys = layout.base; len = 4096 * layout.pages }) at ≡ true = grind (arith, nat_tests) in
    let z : layout.base + (at - layout.base) ≡ at = omega arith in
    let h : holds m at ≡ true = rw (b, n) (grind (arith, nat_tests)) in
    rw (s, z) h

-- a range passes a test where each of its addresses does
pass_all : (test : ℕ → Bool) (at n : ℕ) → at + n < 2 ^ 64 → ((a : ℕ) → at ≤ a → a < at + n → test a ≡ true) → all_pass test at n ≡ true
unfolding first_refused
pass_all test at zero l h = refl
pass_all test at (suc n) l h =
    let z : next at ≡ at + 1 = omega (arith, l) in
    let t : test at ≡ true = h at (omega arith) (omega arith) in
    rw (t, z) (pass_all test (at + 1) n (omega (arith, l)) (λ a low high. h a (omega (arith, low)) (omega (arith, high))))

slots_low : (layout : Layout) → IsLayout layout → layout.slots ≡ layout.base + 4096 * layout.pages - 4096
unfolding layout_at
slots_low layout h = ap (λ (l : Layout). l.slots) h.places

pub image_seen : (r : Runtime) (image : Kept) → Whole r → r.mapped ≡ false → IsImage r image → all_pass (is_seen (see r.view) r.memory) image.base (size_of image) ≡ true
image_seen r image w m i =
    let v : r.view ≡ view_before r.layout = subst (λ (b : Bool). HasView b r) m w.view in
    let top = slots_low r.layout w.ram.is_layout in
    let end = w.ram.is_layout.ram.end in
    let low = i.low in
    let high = i.high in
    rw v (pass_all (is_seen (see (view_before r.layout)) r.memory) image.base (size_of image) (omega (arith, top, end, high))
    (λ a from to. in_ram r.layout r.memory a w.ram.base w.ram.count (omega (arith, low, from)) (omega (arith, top, end, high, to))))

-- ---- where regions end

-- a descriptor lies between two addresses
record Lies (from to : ℕ) (d : Descriptor) : Type 0 where
  low : from ≤ d.start
  high : behind d.start d.pages ≤ to

goes_up : (from to : ℕ) (ds : List Descriptor) → Covers from to ds → from ≤ to
goes_up from to [] c = omega (arith, c)
goes_up from to (d ∷ ds) c = let h = goes_up (from + 4096 * d.pages) to ds c.2 in omega (arith, h)

all_lie : (from to : ℕ) (ds : List Descriptor) → Covers from to ds → All (Lies from to) ds
all_lie from to [] c k x l = absurd (omega (arith, l))
all_lie from to (d ∷ ds) c zero x l = let h = goes_up (from + 4096 * d.pages) to ds c.2 in let s = c.0 in record { low = omega (arith, s); high = omega (arith, h, s) }
all_lie from to (d ∷ ds) c (suc k) x l = let h = all_lie (from + 4096 * d.pages) to ds c.2 k x (omega (arith, l)) in let a = h.low in record { low = omega (arith, a); high = h.high }

-- the descriptors of a state are in RAM
descriptors_lie : (r : Runtime) → Whole r → r.gone ≡ true → MapIsMap → All (Lies r.layout.base (r.layout.base + 4096 * r.layout.pages)) r.descriptors
descriptors_lie r w g law =
    let c : Covers r.pages.base (r.pages.base + 4096 * length r.pages.pages) (map_of r.pages) = (law r.pages).covers in
    let from : Covers r.layout.base (r.layout.base + 4096 * length r.pages.pages) (map_of r.pages) = subst (λ (b : ℕ). Covers b (b + 4096 * length r.pages.pages) (map_of r.pages)) w.ram.map_base c in
    let to : Covers r.layout.base (r.layout.base + 4096 * r.layout.pages) (map_of r.pages) = subst (λ (n : ℕ). Covers r.layout.base (r.layout.base + 4096 * n) (map_of r.pages)) w.ram.map_count from in
    all_lie r.layout.base (r.layout.base + 4096 * r.layout.pages) r.descriptors (subst (λ (ds : List Descriptor). Covers r.layout.base (r.layout.base + 4096 * r.layout.pages) ds) (sym (w.descriptors g)) to)

inside_is : (base pages start len : ℕ) (found : Option Descriptor) → ((d : Descriptor) → found ≡ Some d → Lies base (base + 4096 * pages) d × (holds_at start d ≡ true)) → is_inside start len found ≡ true → IsInRam base pages start len
inside_is base pages start len None h e = absurd cc
inside_is base pages start len (Some d) h e =
    let l : start + len ≤ behind d.start d.pages = grind (arith, nat_tests) in
    let k = h d refl in
    let m : d.start ≤ start = from_test k.1 in
    let low = k.0.low in
    let high = k.0.high in
    record { low = omega (arith, m, low); high = omega (arith, l, high) }
  where
    from_test : holds_at start d ≡ true → d.start ≤ start
    from_test q = grind (arith, nat_tests)

both : (a b : Bool) → (a && b) ≡ true → (a ≡ true) × (b ≡ true)
both true true e = (refl, refl)
both true false e = absurd cc
both false b e = absurd cc

-- an own region that passes its rule
own_is : (r : Runtime) (starts lens : List ℕ) (own : List OwnRegion) (spans : List CertSpan) (k : ℕ) (o : OwnRegion) → All (Lies r.layout.base (r.layout.base + 4096 * r.layout.pages)) r.descriptors
    → slice_get own k ≡ Some o → region_passes r starts lens own spans (suc (suc (suc (suc (suc (suc k)))))) ≡ true → IsInRam r.layout.base r.layout.pages (slice_index starts (suc (suc (suc (suc (suc (suc k))))))) o.len
unfolding region_passes
own_is r starts lens own spans k o lie e h =
    let n = suc (suc (suc (suc (suc (suc k))))) in
    let z : n - 6 ≡ k = omega arith in
    let four : (n == 4) ≡ false = grind (arith, nat_tests) in
    let six : nat_lt n 6 ≡ false = grind (arith, nat_tests) in
    let q : own_passes r starts lens spans n (Some o) ≡ true = rw (four, six, z, e) at h in
    let a = both _ _ q in
    let b = both _ _ a.1 in
    inside_is r.layout.base r.layout.pages (slice_index starts n) o.len (entry_at r.descriptors (slice_index starts n)) (λ d f.
    let found = all_find (Lies r.layout.base (r.layout.base + 4096 * r.layout.pages)) (λ (x : Descriptor). is_runtime x && holds_at (slice_index starts n) x) r.descriptors d lie f in
    (found.0, (both _ _ found.1).1)) b.0

own_len : (own : List OwnRegion) (k : ℕ) (o : OwnRegion) → slice_get own k ≡ Some o → slice_index (map (λ (x : OwnRegion). x.len) own) k ≡ o.len
own_len [] k o e = absurd cc
own_len (x ∷ xs) zero o e = let same : x ≡ o = cc in ap (λ (y : OwnRegion). y.len) same
own_len (x ∷ xs) (suc k) o e = own_len xs k o e

-- own regions stand behind those that are fixed
kept_first : (bytes : ℕ → ℕ) (starts : List ℕ) (own : List OwnRegion) (n : ℕ) → n < length starts → slice_index (with_own bytes starts own) n ≡ slice_index starts n
unfolding with_own
kept_first bytes starts [] n l = refl
kept_first bytes starts (o ∷ os) n l =
    let at = number_at bytes (address_of starts o.cell_region o.cell_at) 8 in
    let long : length (starts ++ at ∷ []) ≡ length starts + 1 = length-append starts (at ∷ []) in
    kept_first bytes (starts ++ at ∷ []) os n (omega (arith, l, long)) ∙ get_or_append_left starts (at ∷ []) 0 n l

-- those that are fixed
record FixedInRam (layout : Layout) : Type 0 where
  slots : IsInRam layout.base layout.pages layout.slots 4096
  system : IsInRam layout.base layout.pages layout.system 4096
  os_return : IsInRam layout.base layout.pages layout.os_return 4096
  os_args : IsInRam layout.base layout.pages layout.os_args 65536
  os_stack : IsInRam layout.base layout.pages layout.os_stack 65536

place_in_ram : (base pages at below len : ℕ) → 256 ≤ pages → at ≡ base + 4096 * pages - below → len ≤ below → below ≤ 0x100000 → IsInRam base pages at len
place_in_ram base pages at below len room e l m = record { low = omega (arith, room, e, m); high = omega (arith, room, e, l, m) }

fixed_in_ram : (layout : Layout) → IsLayout layout → FixedInRam layout
unfolding layout_at
fixed_in_ram layout h = record {
  slots = place_in_ram layout.base layout.pages layout.slots 0x1000 4096 h.ram.room (ap (λ (l : Layout). l.slots) h.places) (omega arith) (omega arith);
  system = place_in_ram layout.base layout.pages layout.system 0x2000 4096 h.ram.room (ap (λ (l : Layout). l.system) h.places) (omega arith) (omega arith);
  os_return = place_in_ram layout.base layout.pages layout.os_return 0x24000 4096 h.ram.room (ap (λ (l : Layout). l.os_return) h.places) (omega arith) (omega arith);
  os_args = place_in_ram layout.base layout.pages layout.os_args 0x34000 65536 h.ram.room (ap (λ (l : Layout). l.os_args) h.places) (omega arith) (omega arith);
  os_stack = place_in_ram layout.base layout.pages layout.os_stack 0x44000 65536 h.ram.room (ap (λ (l : Layout). l.os_stack) h.places) (omega arith) (omega arith);
}

module _ (r : Runtime) (image : Kept) (own : List OwnRegion) (spans : List CertSpan) (w : Whole r) (gone : r.gone ≡ true) (law : MapIsMap) (is : IsImage r image)
    (passes : (n : ℕ) → n < length (starts_of r image own) → region_passes r (starts_of r image own) (lens_of image own) own spans n ≡ true) where
  starts_long : length (starts_of r image own) ≡ 6 + length own
  starts_long = own_long (bytes_in r) (fixed_starts r.layout image) own

  fixed_at : (n at len : ℕ) → n < 6 → slice_index (fixed_starts r.layout image) n ≡ at → IsInRam r.layout.base r.layout.pages at len → IsInRam r.layout.base r.layout.pages (slice_index (starts_of r image own) n) len
  fixed_at n at len l e h = subst (λ x. IsInRam r.layout.base r.layout.pages x len) (sym (kept_first (bytes_in r) (fixed_starts r.layout image) own n l ∙ e)) h

  -- each region is in RAM
  pub region_in_ram : (n : ℕ) → n < length (starts_of r image own) → IsInRam r.layout.base r.layout.pages (slice_index (starts_of r image own) n) (slice_index (lens_of image own) n)
  region_in_ram zero b =
      let top = slots_low r.layout w.ram.is_layout in
      let low = is.low in
      let high = is.high in
      fixed_at 0 image.base (size_of image) (omega arith) refl (record { low = low; high = omega (arith, top, high) })
  region_in_ram (suc zero) b = fixed_at 1 r.layout.os_stack 65536 (omega arith) refl (fixed_in_ram r.layout w.ram.is_layout).os_stack
  region_in_ram (suc (suc zero)) b = fixed_at 2 r.layout.os_args 65536 (omega arith) refl (fixed_in_ram r.layout w.ram.is_layout).os_args
  region_in_ram (suc (suc (suc zero))) b = fixed_at 3 r.layout.os_return 4096 (omega arith) refl (fixed_in_ram r.layout w.ram.is_layout).os_return
  region_in_ram (suc (suc (suc (suc zero)))) b = fixed_at 4 r.layout.system 4096 (omega arith) refl (fixed_in_ram r.layout w.ram.is_layout).system
  region_in_ram (suc (suc (suc (suc (suc zero))))) b = fixed_at 5 r.layout.slots 4096 (omega arith) refl (fixed_in_ram r.layout w.ram.is_layout).slots
  region_in_ram (suc (suc (suc (suc (suc (suc k)))))) b =
      let l : k < length own = omega (arith, b, starts_long) in
      let f : slice_get own k ≡ Some (get_or own k (record { cell_region = 0; cell_at = 0; len = 0 })) = slice_get-get_or own k (record { cell_region = 0; cell_at = 0; len = 0 }) l in
      subst (λ x. IsInRam r.layout.base r.layout.pages (slice_index (starts_of r image own) (suc (suc (suc (suc (suc (suc k))))))) x) (sym (own_len own k _ f))
      (own_is r (starts_of r image own) (lens_of image own) own spans k _ (descriptors_lie r w gone law) f (passes (suc (suc (suc (suc (suc (suc k)))))) b))

  end_by : (n : ℕ) (b : Bool) → nat_lt n (length (starts_of r image own)) ≡ b → slice_index (starts_of r image own) n + length_of (lens_of image own) n < 2 ^ 64
  end_by n true e =
      let l : n < length (starts_of r image own) = grind (arith, nat_tests) in
      let h = (region_in_ram n l).high in
      let end = w.ram.is_layout.ram.end in
      omega (arith, h, end)
  end_by n false e =
      let l : length (starts_of r image own) ≤ n = grind (arith, nat_tests) in
      let long : length (lens_of image own) ≡ 6 + length own = simp (length-map) (omega arith) in
      let a : slice_index (starts_of r image own) n ≡ 0 = get_or_past (starts_of r image own) n 0 l in
      let b : slice_index (lens_of image own) n ≡ 0 = get_or_past (lens_of image own) n 0 (omega (arith, l, starts_long, long)) in
      omega (arith, a, b)

  pub regions_end : End (starts_of r image own) (lens_of image own)
  regions_end n = end_by n (nat_lt n (length (starts_of r image own))) refl

  pub regions_in_ram : AreInRam r.layout.base r.layout.pages (starts_of r image own) (lens_of image own)
  regions_in_ram = all_in_ram r.layout.base r.layout.pages (starts_of r image own) (lens_of image own) region_in_ram
