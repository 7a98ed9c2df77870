-- The outputs of GetMemoryMap, one after another.
use Rattle.std.proofs.Common.{◌≡◌, ◌≤◌, ◌<◌, ◌+◌, ◌*◌, ◌%◌, ◌^◌, sym, length-append, ℕ, zero, suc, Bool, true, false, List, [], ◌∷◌, ◌++◌, length, drop, append-nil, refl, ap, ◌∙◌, arith}
use Rattle.std.proofs.lemmas.List.{length-map}
use Rattle.std.specs.Prelude.{Option, Some, is_none, ◌==◌, ◌/◌, if◌then◌else◌}
use Rattle.uh_base.specs.Bytes.{next, behind, first_refused}
use Rattle.uh_base.specs.LittleEndian.{low_bytes}
use Rattle.guest_memory.specs.Pages.{Pages}
use Rattle.page_alloc.specs.declared.page.Page.{Page}
use Rattle.page_alloc.specs.Pages.{PageList, Whole}
use Rattle.memory_map.specs.declared.descriptor.Descriptor.{Descriptor}
use Rattle.memory_map.specs.Map.{map_of, map_from, types_of, with_page, described}
use Rattle.memory_map.specs.Bytes.{all_bytes, bytes_of, descriptor_size}
use Rattle.address_view.specs.declared.frames.ByteRange.{ByteRange}
use Rattle.address_view.specs.Laws.{RangesSuffice, StoresFollow}
use Rattle.address_view.specs.Ranges.{lacks_ranges}
use Rattle.address_view.specs.Seen.{all_pass, is_seen}
use Rattle.address_view.specs.Stored.{lacks_seen, stored}
use Rattle.guest_call.specs.Outputs.{optional}
use Rattle.memory_services.specs.declared.map.MapOutputs.{MapOutputs}
use Rattle.memory_services.specs.MapService.{each_written, version_written, sizes_written, list_written, size_ranges, map_ranges, descriptor_version}

-- ---- descriptors one behind another

-- bytes that are written over all of a buffer
drop_all : {X : Type 0} (xs : List X) → drop (length xs) xs ≡ []
drop_all [] = refl
drop_all (x ∷ xs) = drop_all xs

nothing_behind : (new written old : List ℕ) (size : ℕ) → size ≡ length old → new ≡ written ++ drop size old → new ≡ written
nothing_behind new written old size e h = h ∙ ap (λ (k : ℕ). written ++ drop k old) e ∙ ap (λ (k : List ℕ). written ++ k) (drop_all old) ∙ append-nil written

pub one_descriptor : (d : Descriptor) (new old : List ℕ) (size : ℕ) → size ≡ length old → new ≡ all_bytes (d ∷ []) ++ drop size old → new ≡ bytes_of d
one_descriptor d new old size e h = nothing_behind new (all_bytes (d ∷ [])) old size e h ∙ append-nil (bytes_of d)

forty : (d : Descriptor) → length (bytes_of d) ≡ descriptor_size
unfolding bytes_of
forty d = refl

forties : (list : List Descriptor) → length (all_bytes list) ≡ descriptor_size * length list
forties [] = refl
forties (d ∷ list) = let more = forties list in omega (arith, more, forty d, length-append (bytes_of d) (all_bytes list))

-- a map has at most as many descriptors as there are pages
with_one : (at memory_type : ℕ) (list : List Descriptor) → length (with_page at memory_type list) ≤ length list + 1
with_one at memory_type [] = omega arith
with_one at memory_type (d ∷ ds) = by (memory_type == d.memory_type)
  where
    by : (same : Bool) → length (if same then described at memory_type (d.pages + 1) ∷ ds else described at memory_type 1 ∷ d ∷ ds) ≤ length (d ∷ ds) + 1
    by true = omega arith
    by false = omega arith

few_descriptors : (at : ℕ) (types : List ℕ) → length (map_from at types) ≤ length types
unfolding map_from
few_descriptors at [] = omega arith
few_descriptors at (memory_type ∷ types) = let one = with_one at memory_type (map_from (at + 4096) types) in let more = few_descriptors (at + 4096) types in omega (arith, one, more)

pub map_fits : (m : PageList) → Whole m → length (all_bytes (map_of m)) ≤ descriptor_size * length m.pages
map_fits m whole = let n = forties (map_of m) in let few = few_descriptors m.base (types_of m.pages) in let same = length-map m.pages (λ (page : Page). page.memory_type) in omega (arith, n, few, same)

-- a descriptor more is counted
pub counted : (size total : ℕ) (d : Descriptor) (old new : List Descriptor) → old ≡ d ∷ new → size + length (all_bytes old) ≡ total → size + descriptor_size + length (all_bytes new) ≡ total
counted size total d old new e so_far =
    let f = ap (λ (list : List Descriptor). length (all_bytes list)) e in
    let one = forty d in
    let more = length-append (bytes_of d) (all_bytes new) in
    omega (arith, f, one, more, so_far)

-- while descriptors are written: these are left, from `here` on
pub record Listing (see : ℕ → Option ℕ) (m0 m : Pages) (at : ℕ) (bytes : List ℕ) (here : ℕ) (left : List Descriptor) : Type 0 where
  pub low : here < 2 ^ 64
  pub rest : stored see m here (all_bytes left) ≡ stored see m0 at bytes
  pub seen : all_pass (is_seen see m) here (length (all_bytes left)) ≡ true
  pub frames : lacks_seen see m here (length (all_bytes left)) ≡ false
  pub base : m.base ≡ m0.base
  pub pages : m.pages ≡ m0.pages

pub listing_asks : StoresFollow → (see : ℕ → Option ℕ) (m0 m : Pages) (at : ℕ) (bytes : List ℕ) (here : ℕ) (left rest : List Descriptor) (d : Descriptor) → left ≡ d ∷ rest → Listing see m0 m at bytes here left
    → (all_pass (is_seen see m) here (length (bytes_of d)) ≡ true) × (lacks_seen see m here (length (bytes_of d)) ≡ false)
listing_asks law see m0 m at bytes here left rest d e is =
    let f = law see m here (bytes_of d) (all_bytes rest) is.low in (
      (f.seen (ap (λ (list : List Descriptor). all_pass (is_seen see m) here (length (all_bytes list))) (sym e) ∙ is.seen)).0,
      (f.lacks (ap (λ (list : List Descriptor). lacks_seen see m here (length (all_bytes list))) (sym e) ∙ is.frames)).0,
    )

pub listing_next : StoresFollow → (see : ℕ → Option ℕ) (m0 m new : Pages) (at : ℕ) (bytes : List ℕ) (here here2 : ℕ) (left rest : List Descriptor) (d : Descriptor) → left ≡ d ∷ rest → here2 ≡ (here + 40) % 2 ^ 64 → Listing see m0 m at bytes here left
    → new ≡ stored see m here (bytes_of d) → new.base ≡ m.base → new.pages ≡ m.pages → Listing see m0 new at bytes here2 rest
listing_next law see m0 m new at bytes here here2 left rest d e h is made base pages =
    let f = law see m here (bytes_of d) (all_bytes rest) is.low in
    let to : behind here (length (bytes_of d)) ≡ here2 = ap (behind here) (forty d) ∙ sym h in
    let seen = (f.seen (ap (λ (list : List Descriptor). all_pass (is_seen see m) here (length (all_bytes list))) (sym e) ∙ is.seen)).1 in
    let frames = (f.lacks (ap (λ (list : List Descriptor). lacks_seen see m here (length (all_bytes list))) (sym e) ∙ is.frames)).1 in
    record {
      low = omega (arith, h);
      rest = ap (λ (k : Pages). stored see k here2 (all_bytes rest)) made ∙ ap (λ (k : ℕ). stored see (stored see m here (bytes_of d)) k (all_bytes rest)) (sym to)
          ∙ sym f.bytes ∙ ap (λ (list : List Descriptor). stored see m here (all_bytes list)) (sym e) ∙ is.rest;
      seen = ap (λ (k : Pages). all_pass (is_seen see k) here2 (length (all_bytes rest))) made ∙ ap (λ (k : ℕ). all_pass (is_seen see (stored see m here (bytes_of d))) k (length (all_bytes rest))) (sym to) ∙ seen;
      frames = ap (λ (k : Pages). lacks_seen see k here2 (length (all_bytes rest))) made ∙ ap (λ (k : ℕ). lacks_seen see (stored see m here (bytes_of d)) k (length (all_bytes rest))) (sym to) ∙ frames;
      base = base ∙ is.base;
      pages = pages ∙ is.pages;
    }

stored_none : (see : ℕ → Option ℕ) (m : Pages) (at : ℕ) → stored see m at [] ≡ m
unfolding stored
stored_none see m at = refl

pub listing_over : (see : ℕ → Option ℕ) (m0 m : Pages) (at : ℕ) (bytes : List ℕ) (here : ℕ) (left : List Descriptor) → left ≡ [] → Listing see m0 m at bytes here left → m ≡ stored see m0 at bytes
listing_over see m0 m at bytes here left e is =
    sym (stored_none see m here) ∙ ap (λ (list : List Descriptor). stored see m here (all_bytes list)) (sym e) ∙ is.rest

as_long : (n v : ℕ) → length (low_bytes n v) ≡ n
unfolding low_bytes
as_long zero v = refl
as_long (suc n) v = ap suc (as_long n (v / 256))

-- frames suffice for the sizes, one after another
pub record SizesFit (see : ℕ → Option ℕ) (m : Pages) (o : MapOutputs) : Type 0 where
  pub each : lacks_seen see m o.descriptor_size (optional o.descriptor_size 8) ≡ false
  pub version : lacks_seen see (each_written see m o) o.version (optional o.version 4) ≡ false
  pub size : lacks_seen see (version_written see m o) o.size 8 ≡ false

-- the first of several ranges, and the others behind it
step : RangesSuffice → (see : ℕ → Option ℕ) (m : Pages) (range : ByteRange) (ranges : List ByteRange) (bytes : List ℕ) → length bytes ≡ range.len → lacks_ranges see m (range ∷ ranges) ≡ false
    → (lacks_seen see m range.at range.len ≡ false) × (lacks_ranges see (stored see m range.at bytes) ranges ≡ false)
step law see m range ranges bytes long e = let s = law see m range ranges e in (s.first, s.stored bytes long)

sizes : RangesSuffice → (see : ℕ → Option ℕ) (m : Pages) (o : MapOutputs) (size : ℕ) (behind : List ByteRange) → lacks_ranges see m (size_ranges o behind) ≡ false
    → SizesFit see m o × (lacks_ranges see (sizes_written see m o size) behind ≡ false)
sizes law see m o size behind e =
    let a = step law see m _ _ (low_bytes (optional o.descriptor_size 8) descriptor_size) (as_long (optional o.descriptor_size 8) descriptor_size) e in
    let b = step law see (each_written see m o) _ _ (low_bytes (optional o.version 4) descriptor_version) (as_long (optional o.version 4) descriptor_version) a.1 in
    let c = step law see (version_written see m o) _ _ (low_bytes 8 size) (as_long 8 size) b.1 in
    (record { each = a.0; version = b.0; size = c.0 }, c.1)

sizes_fit : RangesSuffice → (see : ℕ → Option ℕ) (m : Pages) (o : MapOutputs) (behind : List ByteRange) → lacks_ranges see m (size_ranges o behind) ≡ false → SizesFit see m o
sizes_fit law see m o behind e = (sizes law see m o 0 behind e).0

pub first_fits : RangesSuffice → (see : ℕ → Option ℕ) (m : Pages) (o : MapOutputs) (behind : List ByteRange) → lacks_ranges see m (size_ranges o behind) ≡ false → lacks_seen see m o.descriptor_size (optional o.descriptor_size 8) ≡ false
first_fits law see m o behind e = (sizes_fit law see m o behind e).each

pub version_fits : RangesSuffice → (see : ℕ → Option ℕ) (m : Pages) (o : MapOutputs) (behind : List ByteRange) → lacks_ranges see m (size_ranges o behind) ≡ false → lacks_seen see (each_written see m o) o.version (optional o.version 4) ≡ false
version_fits law see m o behind e = (sizes_fit law see m o behind e).version

pub size_fits : RangesSuffice → (see : ℕ → Option ℕ) (m : Pages) (o : MapOutputs) (behind : List ByteRange) → lacks_ranges see m (size_ranges o behind) ≡ false → lacks_seen see (version_written see m o) o.size 8 ≡ false
size_fits law see m o behind e = (sizes_fit law see m o behind e).size

pub list_fits : RangesSuffice → (see : ℕ → Option ℕ) (m : Pages) (o : MapOutputs) (bytes : List ℕ) → lacks_ranges see m (map_ranges o (length bytes)) ≡ false
    → lacks_seen see (sizes_written see m o (length bytes)) o.buffer (length bytes) ≡ false
list_fits law see m o bytes e =
    let s = (sizes law see m o (length bytes) _ e).1 in
    (step law see (sizes_written see m o (length bytes)) _ _ bytes refl s).0

pub key_fits : RangesSuffice → (see : ℕ → Option ℕ) (m : Pages) (o : MapOutputs) (bytes : List ℕ) → lacks_ranges see m (map_ranges o (length bytes)) ≡ false
    → lacks_seen see (list_written see m o bytes) o.key (optional o.key 8) ≡ false
key_fits law see m o bytes e =
    let s = (sizes law see m o (length bytes) _ e).1 in
    let t = (step law see (sizes_written see m o (length bytes)) _ _ bytes refl s).1 in
    (law see (list_written see m o bytes) _ [] t).first

-- a range that passes a test has each shorter one pass
unrefused : (b : Bool) (at : ℕ) (rest : Option ℕ) → is_none (if b then rest else Some at) ≡ true → (b ≡ true) × (is_none rest ≡ true)
unrefused true at rest e = (refl, e)
unrefused false at rest e = grind arith

pub seen_before : (test : ℕ → Bool) (at few many : ℕ) → few ≤ many → all_pass test at many ≡ true → all_pass test at few ≡ true
unfolding first_refused
seen_before test at zero many h e = refl
seen_before test at (suc few) zero h e = absurd (omega arith)
seen_before test at (suc few) (suc many) h e =
    let u = unrefused (test at) at (first_refused test (next at) many) e in
    rw u.0 (seen_before test (next at) few many (omega arith) u.1)
