-- The regions of a driver that was checked, before a map and from it on.
use Rattle.std.proofs.Common.{◌≡◌, ◌<◌, ◌≤◌, ◌+◌, ◌-◌, ◌*◌, ℕ, zero, suc, Bool, true, false, List, [], ◌∷◌, ◌++◌, length, map, refl, sym, subst, arith, inl, inr, ◌∙◌, ap, length-append}
use Rattle.std.specs.Prelude.{◌≢◌, ◌^◌, ◌==◌, ◌&&◌, not, nat_lt, nat_le, slice_get, slice_index, Option, Some, None}
use Rattle.std.specs.List.{list_any}
use Rattle.std.proofs.lemmas.Bool.Decides.{nat_tests}
use Rattle.std.proofs.lemmas.List.{get_or-append-add, get_or_append_left, get_or_past, length-map}
use Rattle.uh_base.specs.Bytes.{number_at}
use Rattle.page_alloc.specs.Pages.{page_at}
use Rattle.memory_map.specs.declared.descriptor.Descriptor.{Descriptor}
use Rattle.memory_map.specs.Map.{NeighboursDiffer, attribute_of, holds}
use Rattle.memory_map.specs.Laws.{MapIsMap}
use Rattle.address_view.specs.Windows.{see}
use Rattle.map_faults.specs.Grounds.{Call, Kept}
use Rattle.map_faults.specs.Rules.{is_runtime}
use Rattle.map_faults.specs.Faults.{entry_at}
use Rattle.virtual_map.specs.States.{Runtime}
use Rattle.map_transition.specs.Wholes.{HaveType, IsImage, Whole, type_of}
use Rattle.prov_types.specs.Kinds.{AreApart, length_of}
use Rattle.prov_cert.specs.declared.cert.OwnRegion.{OwnRegion}
use Rattle.prov_cert.specs.declared.cert.CertSpan.{CertSpan}
use Rattle.prov_cert.specs.Cert.{Plain}
use Rattle.prov_layout.specs.Offsets.{every}
use Rattle.prov_layout.specs.Laws.{PassesEach}
use Rattle.prov_runs.specs.Bytes.{AreDisjoint}
use Rattle.provenance_tables.specs.Regions.{address_of, bytes_in, fixed_lens, fixed_starts, is_cell, is_inside, lens_of, meets_image, meets_region, own_passes, ranges_meet, region_passes, size_of, starts_of, with_own}
use Rattle.provenance_tables.specs.Passed.{NoneFailsStands, TablesPass}
use Rattle.prov_laws.specs.Convert.{is_owned}
use Rattle.mapped_runs.specs.Places.{IsInDescriptor, IsInWindow, MovesAsOne, RangesAreSeen, moved_by}
use Rattle.mapped_runs.specs.Checked.{IsChecked, RegionMoves, RegionsAreApart, RegionsAreDisjoint, RegionsMove, regions_in, starts_after, starts_before}
use Rattle.mapped_runs.proofs.MemberLemmas.{all_at, both_true, found_at, held_low, one_holds, within}
use Rattle.mapped_runs.proofs.GroundLemmas.{Places, is_first, map_covers, places, typed, window_clear}

-- ---- lists of regions

abbrev len_of_own : OwnRegion → ℕ
len_of_own o = o.len

-- own regions stand behind the others
own_starts : (bytes : ℕ → ℕ) (starts : List ℕ) (own : List OwnRegion) (k : ℕ) → k < length starts → slice_index (with_own bytes starts own) k ≡ slice_index starts k
unfolding with_own
own_starts bytes starts [] k l = refl
own_starts bytes starts (o ∷ os) k l =
    let value = number_at bytes (address_of starts o.cell_region o.cell_at) 8 in
    let long : length (starts ++ value ∷ []) ≡ length starts + 1 = length-append starts (value ∷ []) in
    own_starts bytes (starts ++ value ∷ []) os k (omega (arith, l, long)) ∙ get_or_append_left starts (value ∷ []) 0 k l

own_long : (bytes : ℕ → ℕ) (starts : List ℕ) (own : List OwnRegion) → length (with_own bytes starts own) ≡ length starts + length own
unfolding with_own
own_long bytes starts [] = omega arith
own_long bytes starts (o ∷ os) =
    let value = number_at bytes (address_of starts o.cell_region o.cell_at) 8 in
    let long : length (starts ++ value ∷ []) ≡ length starts + 1 = length-append starts (value ∷ []) in
    let rest = own_long bytes (starts ++ value ∷ []) os in
    rest ∙ omega (arith, long)

pub starts_long : (r : Runtime) (image : Kept) (own : List OwnRegion) → length (starts_of r image own) ≡ 6 + length own
starts_long r image own = own_long (bytes_in r) (fixed_starts r.layout image) own

-- the own region with a number from 6 on
record IsOwn (own : List OwnRegion) (m len : ℕ) : Type 0 where
  one : OwnRegion
  here : slice_get own m ≡ Some one
  is : one.len ≡ len

own_at : (own : List OwnRegion) (m : ℕ) → 0 < slice_index (map len_of_own own) m → IsOwn own m (slice_index (map len_of_own own) m)
own_at [] m l = absurd (omega (arith, l))
own_at (o ∷ os) zero l = record { one = o; here = refl; is = refl }
own_at (o ∷ os) (suc m) l = let k = own_at os m l in record { one = k.one; here = k.here; is = k.is }

own_below : (own : List OwnRegion) (m : ℕ) (o : OwnRegion) → slice_get own m ≡ Some o → m < length own
own_below [] m o s = absurd cc
own_below (p ∷ ps) zero o s = omega arith
own_below (p ∷ ps) (suc m) o s = let k = own_below ps m o s in omega (arith, k)

-- a region with a length is listed
pub is_listed : (r : Runtime) (image : Kept) (own : List OwnRegion) (n : ℕ) → 0 < length_of (lens_of image own) n → n < length (starts_of r image own)
is_listed r image own n l = by (nat_lt n (length (starts_of r image own))) refl
  where
    by : (b : Bool) → nat_lt n (length (starts_of r image own)) ≡ b → n < length (starts_of r image own)
    by true e = grind (arith, nat_tests)
    by false e =
        let over : length (starts_of r image own) ≤ n = grind (arith, nat_tests) in
        let long = starts_long r image own in
        let count : length (map len_of_own own) ≡ length own = length-map own len_of_own in
        let all : length (lens_of image own) ≡ 6 + length (map len_of_own own) = omega arith in
        let none : length_of (lens_of image own) n ≡ 0 = get_or_past (lens_of image own) n 0 (omega (arith, over, long, count, all)) in
        absurd (omega (arith, none, l))

-- ---- ranges

apart_or_meet : (a m b n : ℕ) → ranges_meet a m b n ≡ false → 0 < m → 0 < n → (x : ℕ) → a ≤ x → x < a + m → b ≤ x → x < b + n → ⊥
apart_or_meet a m b n h i j x p q s t = absurd (let bad : ranges_meet a m b n ≡ true = grind (arith, nat_tests) in cc)

not_true : (b : Bool) → not b ≡ true → b ≡ false
not_true true h = absurd cc
not_true false h = refl

-- what the rule of an own region says
record OwnStands (r : Runtime) (starts lens : List ℕ) (n len : ℕ) : Type 0 where
  inside : is_inside (slice_index starts n) len (entry_at r.descriptors (slice_index starts n)) ≡ true
  apart : every (λ m. not (meets_region starts lens n m)) 0 1 (length starts) ≡ true

own_stands : (r : Runtime) (starts lens : List ℕ) (own : List OwnRegion) (spans : List CertSpan) (m : ℕ) (o : OwnRegion) → slice_get own m ≡ Some o → region_passes r starts lens own spans (6 + m) ≡ true → OwnStands r starts lens (6 + m) o.len
unfolding region_passes
own_stands r starts lens own spans m o s h =
    let a : (6 + m == 4) ≡ false = grind (arith, nat_tests) in
    let b : nat_lt (6 + m) 6 ≡ false = grind (arith, nat_tests) in
    let e : 6 + m - 6 ≡ m = omega arith in
    let k : own_passes r starts lens spans (6 + m) (Some o) ≡ true = rw (a, b, e, s) at h in
    let first = both_true (nat_le (o.cell_at + 8) (length_of lens o.cell_region) && list_any (λ (t : CertSpan). is_cell o t) spans) _ k in
    let second = both_true (is_inside (slice_index starts (6 + m)) o.len (entry_at r.descriptors (slice_index starts (6 + m)))) _ first.1 in
    let third = both_true (not (list_any (λ (q : Kept). meets_image (slice_index starts (6 + m)) o.len q) r.kept)) _ second.1 in
    record { inside = second.0; apart = third.1 }

inside_one : (r : Runtime) (start len : ℕ) → is_inside start len (entry_at r.descriptors start) ≡ true → IsInDescriptor r.descriptors start len
inside_one r start len h = by (entry_at r.descriptors start) refl h
  where
    by : (o : Option Descriptor) → entry_at r.descriptors start ≡ o → is_inside start len o ≡ true → IsInDescriptor r.descriptors start len
    by None e k = absurd cc
    by (Some d) e k =
        let f = found_at (λ (x : Descriptor). is_runtime x && holds start x) r.descriptors d e in
        let t = both_true (is_runtime d) (holds start d) f.passes in
        record { at = f.at; one = d; here = f.here; runtime = t.0; low = held_low start d t.1; high = grind (arith, nat_tests) }

two_types : (o : Option ℕ) → o ≡ Some 5 → o ≡ Some 6 → ⊥
two_types o a b = cc

six_on : (n : ℕ) → 5 < n → (m : ℕ) × (n ≡ 6 + m)
six_on n l = (n - 6, omega (arith, l))

module _ (is_map : MapIsMap) (each : PassesEach) (stands : NoneFailsStands) (seen : RangesAreSeen) where
  -- pages of a type for the runtime lie in one descriptor
  typed_range : (r : Runtime) → Whole r → r.gone ≡ true → (start len memory_type : ℕ) → ((d : Descriptor) → d.attribute ≡ attribute_of memory_type → is_runtime d ≡ true) → r.layout.base ≤ start → 0 < len
      → start + len ≤ r.layout.base + 4096 * r.layout.pages → HaveType r.pages start (start + len) memory_type → IsInDescriptor r.descriptors start len
  typed_range r w g start len memory_type runs low some high types =
      let covers = map_covers r w g is_map in
      let differ = subst NeighboursDiffer (sym (w.descriptors g)) (is_map r.pages).differ in
      let all = one_holds r.descriptors r.layout.base (r.layout.base + 4096 * r.layout.pages) start (start + len) memory_type covers differ low (omega (arith, some)) high
      (λ i d x s a b l h. (typed r w g is_map i d x memory_type s l h (types x a b)).type) in
      let first = all.low in
      let last = all.high in
      let attribute = (typed r w g is_map all.at all.one start memory_type all.here first (omega (arith, some, last)) (types start (omega arith) (omega (arith, some)))).attribute in
      record { at = all.at; one = all.one; here = all.here; runtime = runs all.one attribute; low = first; high = last }

  code_runs : (d : Descriptor) → d.attribute ≡ attribute_of 5 → is_runtime d ≡ true
  code_runs d e = rw e refl

  data_runs : (d : Descriptor) → d.attribute ≡ attribute_of 6 → is_runtime d ≡ true
  data_runs d e = rw e refl

  module _ (r : Runtime) (call : Call) (image : Kept) (cert : Plain) (checked : IsChecked r call image cert) where
    abbrev starts : List ℕ
    starts = starts_of r image cert.regions

    abbrev lens : List ℕ
    lens = lens_of image cert.regions

    w : Whole r
    w = checked.whole

    gone : r.gone ≡ true
    gone = (is_first r call checked.accepted).gone

    p : Places r.layout
    p = places r.layout w.ram.is_layout

    pub passes : TablesPass r image cert starts lens checked.marks
    passes =
        let s = stands r checked.handle cert checked.marks checked.form checked.passes in
        let both : Some s.image ≡ Some image = sym s.kept ∙ checked.stays in
        let same : s.image ≡ image = cc in
        subst (λ (k : Kept). TablesPass r k cert (starts_of r k cert.regions) (lens_of k cert.regions) checked.marks) same s.passes

    pub is_image : IsImage r image
    is_image = let f = found_at (λ (k : Kept). k.handle == checked.handle) r.kept image checked.stays in all_at (IsImage r) r.kept f.at image w.images f.here

    -- ---- the first six

    pub start_at : (k : ℕ) → k < 6 → slice_index starts k ≡ slice_index (fixed_starts r.layout image) k
    start_at k l = own_starts (bytes_in r) (fixed_starts r.layout image) cert.regions k l

    image_in : 0 < size_of image → IsInDescriptor r.descriptors image.base (size_of image)
    image_in some =
        let low = is_image.low in
        let high = is_image.high in
        let slots = p.slots in
        typed_range r w gone image.base (size_of image) 5 code_runs low some (omega (arith, high, slots)) is_image.types

    system_in : IsInDescriptor r.descriptors r.layout.system 4096
    system_in =
        let a = p.low in let b = p.window in let c = p.boot in let d = p.system in let e = p.slots in
        typed_range r w gone r.layout.system 4096 6 data_runs (omega (arith, a, b, c)) (omega arith) (omega (arith, d, e)) (λ x l h. w.places.system x l (omega (arith, d, h)))

    slots_in : IsInDescriptor r.descriptors r.layout.slots 4096
    slots_in =
        let a = p.low in let b = p.window in let c = p.boot in let d = p.system in let e = p.slots in
        typed_range r w gone r.layout.slots 4096 5 code_runs (omega (arith, a, b, c, d)) (omega arith) (omega (arith, e)) w.places.slots

    at_start : (n : ℕ) (start : ℕ) → slice_index starts n ≡ start → IsInDescriptor r.descriptors start (length_of lens n) → RegionMoves r image cert n
    at_start n start is h =
        let here = subst (λ (a : ℕ). IsInDescriptor r.descriptors a (length_of lens n)) (sym is) h in
        record { as_one = inl here; owned = λ o. here }

    at_window : (n : ℕ) (start : ℕ) → slice_index starts n ≡ start → is_owned n ≡ false → IsInWindow r.layout start (length_of lens n) → RegionMoves r image cert n
    at_window n start is off h =
        record { as_one = inr (subst (λ (a : ℕ). IsInWindow r.layout a (length_of lens n)) (sym is) h); owned = λ o. absurd cc }

    own_len : (m : ℕ) → length_of lens (6 + m) ≡ slice_index (map len_of_own cert.regions) m
    own_len m = get_or-append-add (fixed_lens image) (map len_of_own cert.regions) m 0

    own_one : (m : ℕ) → 0 < length_of lens (6 + m) → IsOwn cert.regions m (length_of lens (6 + m))
    own_one m some = let e = own_len m in subst (λ (n : ℕ). IsOwn cert.regions m n) (sym e) (own_at cert.regions m (omega (arith, some, e)))

    own_rule : (m : ℕ) → (o : IsOwn cert.regions m (length_of lens (6 + m))) → OwnStands r starts lens (6 + m) o.one.len
    own_rule m o =
        let below = own_below cert.regions m o.one o.here in
        let long = starts_long r image cert.regions in
        own_stands r starts lens cert.regions cert.spans m o.one o.here (passes.regions (6 + m) (omega (arith, below, long)))

    own_moves : (m : ℕ) → 0 < length_of lens (6 + m) → RegionMoves r image cert (6 + m)
    own_moves m some =
        let o = own_one m some in
        let rule = own_rule m o in
        let here = inside_one r (slice_index starts (6 + m)) (length_of lens (6 + m)) (subst (λ (len : ℕ). is_inside (slice_index starts (6 + m)) len (entry_at r.descriptors (slice_index starts (6 + m))) ≡ true) o.is rule.inside) in
        record { as_one = inl here; owned = λ _. here }

    pub region_moves : (n : ℕ) → 0 < length_of lens n → RegionMoves r image cert n
    region_moves zero some = at_start 0 image.base (start_at 0 (omega arith)) (image_in some)
    region_moves (suc zero) some =
        let a = p.arguments in let b = p.back in let c = p.window in
        at_window 1 r.layout.os_stack (start_at 1 (omega arith)) refl (record { low = omega arith; high = omega (arith, c) })
    region_moves (suc (suc zero)) some =
        let a = p.arguments in let b = p.back in let c = p.window in
        at_window 2 r.layout.os_args (start_at 2 (omega arith)) refl (record { low = omega (arith, a); high = omega (arith, a, c) })
    region_moves (suc (suc (suc zero))) some =
        let a = p.arguments in let b = p.back in let c = p.window in
        at_window 3 r.layout.os_return (start_at 3 (omega arith)) refl (record { low = omega (arith, a, b); high = omega (arith, a, b, c) })
    region_moves (suc (suc (suc (suc zero)))) some = at_start 4 r.layout.system (start_at 4 (omega arith)) system_in
    region_moves (suc (suc (suc (suc (suc zero))))) some = at_start 5 r.layout.slots (start_at 5 (omega arith)) slots_in
    region_moves (suc (suc (suc (suc (suc (suc m)))))) some =
        let e : 6 + m ≡ suc (suc (suc (suc (suc (suc m))))) = omega arith in
        subst (RegionMoves r image cert) e (own_moves m (subst (λ (n : ℕ). 0 < length_of lens n) (sym e) some))

    -- ---- in memory

    pub record InRam (start len : ℕ) : Type 0 where
      pub low : r.layout.base ≤ start
      pub high : start + len ≤ r.layout.base + 4096 * r.layout.pages

    in_ram : (start len : ℕ) → MovesAsOne r start len → InRam start len
    in_ram start len (inl m) =
        let k = within r.layout.base (r.layout.base + 4096 * r.layout.pages) r.descriptors m.at m.one (map_covers r w gone is_map) m.here in
        let a = k.low in let b = k.high in let c = m.low in let d = m.high in
        record { low = omega (arith, a, c); high = omega (arith, b, d) }
    in_ram start len (inr m) =
        let a = p.low in let b = p.boot in let c = p.system in let d = p.slots in let l = m.low in let h = m.high in
        record { low = omega (arith, a, l); high = omega (arith, h, b, c, d) }

    pub ram_of : (n : ℕ) → 0 < length_of lens n → InRam (slice_index starts n) (length_of lens n)
    ram_of n some = in_ram (slice_index starts n) (length_of lens n) (region_moves n some).as_one

    pub before_at : (n : ℕ) → 0 < length_of lens n → starts_before r image cert n ≡ slice_index starts n
    unfolding starts_before
    before_at n some = let t : nat_lt 0 (length_of lens n) ≡ true = grind (arith, nat_tests) in rw t refl

    pub after_at : (n : ℕ) → 0 < length_of lens n → starts_after r call image cert n ≡ moved_by r call (slice_index starts n)
    unfolding starts_after
    after_at n some = let t : nat_lt 0 (length_of lens n) ≡ true = grind (arith, nat_tests) in rw t refl

    pub before_none : (n : ℕ) → length_of lens n ≡ 0 → starts_before r image cert n ≡ 4096
    unfolding starts_before
    before_none n none = rw none refl

    pub after_none : (n : ℕ) → length_of lens n ≡ 0 → starts_after r call image cert n ≡ 4096
    unfolding starts_after
    after_none n none = rw none refl

    -- where a region is, before the map and from it on
    pub record Stands (n : ℕ) : Type 0 where
      pub old_low : 4096 ≤ starts_before r image cert n
      pub old_high : starts_before r image cert n + length_of lens n ≤ 2 ^ 47
      pub new_low : 4096 ≤ starts_after r call image cert n
      pub new_high : starts_after r call image cert n + length_of lens n ≤ 2 ^ 64 - 4096

    pub region_stands : (n : ℕ) → Stands n
    region_stands n = by (nat_lt 0 (length_of lens n)) refl
      where
        by : (b : Bool) → nat_lt 0 (length_of lens n) ≡ b → Stands n
        by true e =
            let some : 0 < length_of lens n = grind (arith, nat_tests) in
            let m = region_moves n some in
            let ram = in_ram (slice_index starts n) (length_of lens n) m.as_one in
            let s = seen r call (slice_index starts n) (length_of lens n) w checked.accepted some m.as_one in
            let old = before_at n some in
            let new = after_at n some in
            let low = ram.low in let high = ram.high in let base = p.base in let end = p.end in let to = s.low in let far = s.high in
            record { old_low = omega (arith, old, low, base); old_high = omega (arith, old, high, end); new_low = omega (arith, new, to); new_high = omega (arith, new, far) }
        by false e =
            let none : length_of lens n ≡ 0 = grind (arith, nat_tests) in
            let old = before_none n none in
            let new = after_none n none in
            record { old_low = omega (arith, old); old_high = omega (arith, old, none); new_low = omega (arith, new); new_high = omega (arith, new, none) }

    pub regions_apart : AreApart (regions_in r call image cert)
    regions_apart = record {
      old_begins = λ n. let s = (region_stands n).old_low in omega (arith, s);
      new_begins = λ n. let s = (region_stands n).new_low in omega (arith, s);
      old_ends = λ n. let s = (region_stands n).old_high in omega (arith, s);
      new_ends = λ n. let s = (region_stands n).new_high in omega (arith, s);
    }

    -- ---- disjoint

    -- a byte of two ranges
    abbrev Meets : (start len at : ℕ) → Type 0
    Meets start len at = (start ≤ at) × (at < start + len)

    -- an own region meets no other
    own_apart : (m q at : ℕ) → 0 < length_of lens (6 + m) → 0 < length_of lens q → q ≢ 6 + m → Meets (slice_index starts (6 + m)) (length_of lens (6 + m)) at → Meets (slice_index starts q) (length_of lens q) at → ⊥
    own_apart m q at some more other a b =
        let o = own_one m some in
        let rule = own_rule m o in
        let z : 0 + q * 1 ≡ q = omega arith in
        let k : not (meets_region starts lens (6 + m) q) ≡ true = ap (λ n. not (meets_region starts lens (6 + m) n)) (sym z) ∙ each (λ n. not (meets_region starts lens (6 + m) n)) 0 1 (length starts) q rule.apart (is_listed r image cert.regions q more) in
        let off : (q == 6 + m) ≡ false = grind (arith, nat_tests) in
        let f = not_true (meets_region starts lens (6 + m) q) k in
        let g : ranges_meet (slice_index starts (6 + m)) (length_of lens (6 + m)) (slice_index starts q) (length_of lens q) ≡ false = rw off at f in
        apart_or_meet (slice_index starts (6 + m)) (length_of lens (6 + m)) (slice_index starts q) (length_of lens q) g some more at a.0 a.1 b.0 b.1

    -- the image meets neither the window nor the pages of the firmware
    off_window : (at : ℕ) → Meets image.base (size_of image) at → r.layout.os_stack ≤ at → at < r.layout.boot_stack → ⊥
    off_window at a low high =
        let some : 0 < size_of image = let l = a.0 in let h = a.1 in omega (arith, l, h) in
        let m = image_in some in
        let first = m.low in let last = m.high in let l = a.0 in let h = a.1 in
        window_clear r w gone is_map m.at m.one at m.here m.runtime low high (omega (arith, first, l)) (omega (arith, last, h))

    off_system : (at : ℕ) → Meets image.base (size_of image) at → Meets r.layout.system 4096 at → ⊥
    off_system at a b =
        let d = p.system in let h = b.1 in
        let one : type_of (page_at r.pages at) ≡ Some 5 = is_image.types at a.0 a.1 in
        let two : type_of (page_at r.pages at) ≡ Some 6 = w.places.system at b.0 (omega (arith, d, h)) in
        two_types (type_of (page_at r.pages at)) one two

    off_slots : (at : ℕ) → Meets image.base (size_of image) at → Meets r.layout.slots 4096 at → ⊥
    off_slots at a b = let high = is_image.high in let h = a.1 in let l = b.0 in omega (arith, high, h, l)

    -- the first six, in their order
    abbrev fixed_start : ℕ → ℕ
    fixed_start k = slice_index (fixed_starts r.layout image) k

    first_apart : (q at : ℕ) → 0 < q → q < 6 → Meets image.base (size_of image) at → Meets (fixed_start q) (slice_index (fixed_lens image) q) at → ⊥
    first_apart zero at some few a b = absurd (omega (arith, some))
    first_apart (suc zero) at some few a b =
        let x = p.arguments in let y = p.back in let z = p.window in let l = b.0 in let h = b.1 in
        off_window at a (omega (arith, l)) (omega (arith, h, z))
    first_apart (suc (suc zero)) at some few a b =
        let x = p.arguments in let y = p.back in let z = p.window in let l = b.0 in let h = b.1 in
        off_window at a (omega (arith, l, x)) (omega (arith, h, x, z))
    first_apart (suc (suc (suc zero))) at some few a b =
        let x = p.arguments in let y = p.back in let z = p.window in let l = b.0 in let h = b.1 in
        off_window at a (omega (arith, l, x, y)) (omega (arith, h, x, y, z))
    first_apart (suc (suc (suc (suc zero)))) at some few a b = off_system at a b
    first_apart (suc (suc (suc (suc (suc zero))))) at some few a b = off_slots at a b
    first_apart (suc (suc (suc (suc (suc (suc q)))))) at some few a b = absurd (omega (arith, few))

    -- one behind the image ends where the next begins, or before
    ends : (k q : ℕ) → k < q → q < 5 → fixed_start (suc k) + slice_index (fixed_lens image) (suc k) ≤ fixed_start (suc q)
    ends k zero l few = absurd (omega (arith, l))
    ends zero (suc zero) l few = let x = p.arguments in omega (arith, x)
    ends zero (suc (suc zero)) l few = let x = p.arguments in let y = p.back in omega (arith, x, y)
    ends zero (suc (suc (suc zero))) l few = let x = p.arguments in let z = p.window in let b = p.boot in omega (arith, x, z, b)
    ends zero (suc (suc (suc (suc zero)))) l few = let x = p.arguments in let z = p.window in let b = p.boot in let s = p.system in omega (arith, x, z, b, s)
    ends zero (suc (suc (suc (suc (suc q))))) l few = absurd (omega (arith, few))
    ends (suc zero) (suc zero) l few = absurd (omega (arith, l))
    ends (suc zero) (suc (suc zero)) l few = let y = p.back in omega (arith, y)
    ends (suc zero) (suc (suc (suc zero))) l few = let x = p.arguments in let z = p.window in let b = p.boot in omega (arith, x, z, b)
    ends (suc zero) (suc (suc (suc (suc zero)))) l few = let x = p.arguments in let z = p.window in let b = p.boot in let s = p.system in omega (arith, x, z, b, s)
    ends (suc zero) (suc (suc (suc (suc (suc q))))) l few = absurd (omega (arith, few))
    ends (suc (suc zero)) (suc zero) l few = absurd (omega (arith, l))
    ends (suc (suc zero)) (suc (suc zero)) l few = absurd (omega (arith, l))
    ends (suc (suc zero)) (suc (suc (suc zero))) l few = let x = p.arguments in let y = p.back in let z = p.window in let b = p.boot in omega (arith, x, y, z, b)
    ends (suc (suc zero)) (suc (suc (suc (suc zero)))) l few = let x = p.arguments in let y = p.back in let z = p.window in let b = p.boot in let s = p.system in omega (arith, x, y, z, b, s)
    ends (suc (suc zero)) (suc (suc (suc (suc (suc q))))) l few = absurd (omega (arith, few))
    ends (suc (suc (suc zero))) (suc zero) l few = absurd (omega (arith, l))
    ends (suc (suc (suc zero))) (suc (suc zero)) l few = absurd (omega (arith, l))
    ends (suc (suc (suc zero))) (suc (suc (suc zero))) l few = absurd (omega (arith, l))
    ends (suc (suc (suc zero))) (suc (suc (suc (suc zero)))) l few = let s = p.system in omega (arith, s)
    ends (suc (suc (suc zero))) (suc (suc (suc (suc (suc q))))) l few = absurd (omega (arith, few))
    ends (suc (suc (suc (suc k)))) (suc q) l few = absurd (omega (arith, l, few))

    fixed_apart : (k q at : ℕ) → k < q → q < 6 → Meets (fixed_start k) (slice_index (fixed_lens image) k) at → Meets (fixed_start q) (slice_index (fixed_lens image) q) at → ⊥
    fixed_apart zero q at l few a b = first_apart q at l few a b
    fixed_apart (suc k) zero at l few a b = absurd (omega (arith, l))
    fixed_apart (suc k) (suc q) at l few a b = let e = ends k q (omega (arith, l)) (omega (arith, few)) in let h = a.1 in let g = b.0 in absurd (omega (arith, e, h, g))

    fixed_len : (k : ℕ) → k < 6 → length_of lens k ≡ slice_index (fixed_lens image) k
    fixed_len k l = get_or_append_left (fixed_lens image) (map len_of_own cert.regions) 0 k l

    at_fixed : (k at : ℕ) → k < 6 → Meets (slice_index starts k) (length_of lens k) at → Meets (fixed_start k) (slice_index (fixed_lens image) k) at
    at_fixed k at l a = let s = start_at k l in let n = fixed_len k l in let x = a.0 in let y = a.1 in (omega (arith, s, x), omega (arith, s, n, y))

    -- two regions of different numbers have no address in common
    less_apart : (k q at : ℕ) → k < q → 0 < length_of lens k → 0 < length_of lens q → Meets (slice_index starts k) (length_of lens k) at → Meets (slice_index starts q) (length_of lens q) at → ⊥
    less_apart k q at l some more a b = by (nat_lt q 6) refl
      where
        by : (c : Bool) → nat_lt q 6 ≡ c → ⊥
        by true e = let few : q < 6 = grind (arith, nat_tests) in fixed_apart k q at l few (at_fixed k at (omega (arith, l, few)) a) (at_fixed q at few b)
        by false e =
            let s = six_on q (grind (arith, nat_tests)) in
            let is = s.1 in
            own_apart s.0 k at (subst (λ (n : ℕ). 0 < length_of lens n) is more) some (λ same. omega (arith, same, is, l)) (subst (λ (n : ℕ). Meets (slice_index starts n) (length_of lens n) at) is b) a

    none_meet : (k q at : ℕ) → 0 < length_of lens k → 0 < length_of lens q → Meets (slice_index starts k) (length_of lens k) at → Meets (slice_index starts q) (length_of lens q) at → k ≡ q
    none_meet k q at some more a b = by (nat_lt k q) (nat_lt q k) refl refl
      where
        by : (c d : Bool) → nat_lt k q ≡ c → nat_lt q k ≡ d → k ≡ q
        by true d e f = absurd (less_apart k q at (grind (arith, nat_tests)) some more a b)
        by false true e f = absurd (less_apart q k at (grind (arith, nat_tests)) more some b a)
        by false false e f = grind (arith, nat_tests)

    pub regions_disjoint : AreDisjoint (regions_in r call image cert)
    regions_disjoint = record {
      old = λ k q o x a b same.
          let some : 0 < length_of lens k = omega (arith, a) in
          let more : 0 < length_of lens q = omega (arith, b) in
          let s = before_at k some in
          let t = before_at q more in
          none_meet k q (slice_index starts k + o) some more (omega arith, omega (arith, a)) (omega (arith, s, t, same), omega (arith, s, t, same, b));
      new = λ k q o x a b same.
          let some : 0 < length_of lens k = omega (arith, a) in
          let more : 0 < length_of lens q = omega (arith, b) in
          let s = after_at k some in
          let t = after_at q more in
          let one = (seen r call (slice_index starts k) (length_of lens k) w checked.accepted some (region_moves k some).as_one).shown o a in
          let two = (seen r call (slice_index starts q) (length_of lens q) w checked.accepted more (region_moves q more).as_one).shown x b in
          let places_same : moved_by r call (slice_index starts k) + o ≡ moved_by r call (slice_index starts q) + x = omega (arith, s, t, same) in
          let both : Some (slice_index starts k + o) ≡ Some (slice_index starts q + x) = sym one ∙ ap (see _) places_same ∙ two in
          let at : slice_index starts k + o ≡ slice_index starts q + x = cc in
          none_meet k q (slice_index starts k + o) some more (omega arith, omega (arith, a)) (omega (arith, at), omega (arith, at, b));
    }

  pub regions_move : RegionsMove
  regions_move r call image cert n checked some = region_moves r call image cert checked n some

  pub regions_are_apart : RegionsAreApart
  regions_are_apart r call image cert checked = regions_apart r call image cert checked

  pub regions_are_disjoint : RegionsAreDisjoint
  regions_are_disjoint r call image cert checked = regions_disjoint r call image cert checked
