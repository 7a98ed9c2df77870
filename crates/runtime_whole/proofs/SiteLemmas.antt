-- The sites of a loaded image, and their words.
use Rattle.std.proofs.Common.{◌≡◌, ℕ, zero, suc, ◌+◌, ◌*◌, ◌-◌, ◌/◌, ◌%◌, ◌^◌, ◌≤◌, ◌<◌, Bool, true, false, List, [], ◌∷◌, ◌++◌, length, drop, refl, ap, subst, arith, length-append, length-take, length-drop}
use Rattle.std.specs.Prelude.{nat_le, nat_lt, ◌==◌, ◌&&◌, slice_index, find, Option, Some, None, Ok, if◌then◌else◌}
use Rattle.std.specs.Int.{byte_at, bytes_low_first, to_le_bytes, w64}
use Rattle.std.proofs.lemmas.Bool.Decides.{nat_tests}
use Rattle.pe_image.specs.declared.image.Section.{Section}
use Rattle.pe_image.specs.ImageOf.{Fields}
use Rattle.pe_image.specs.Numbers.{u32_at, u64_at}
use Rattle.pe_image.specs.Placed.{copies_to, byte_in, placed_byte}
use Rattle.base_reloc.specs.declared.site.Site.{Site}
use Rattle.base_reloc.specs.declared.site.SiteKind.{SiteKind}
use Rattle.base_reloc.specs.declared.site.SiteKind.TheVariants.{Dir64, Highlow, High20}
use Rattle.base_reloc.specs.declared.entry.EntryKind.{EntryKind}
use Rattle.base_reloc.specs.declared.entry.EntryKind.TheVariants.{Padding, Moved, Unmoved, Unknown}
use Rattle.base_reloc.specs.Sites.{width_of, covers}
use Rattle.base_reloc.specs.Blocks.{Part, Entry, Broken, entries_at, entry_count, is_block_size, with_block, parts_at, parts_of, table_of}
use Rattle.base_reloc.specs.Kept.{kind_of, type_in, offset_in, sites_in}
use Rattle.base_reloc.specs.Laws.{site_before, moved_entries, SitesAreEntries}
use Rattle.base_reloc.specs.Moved as moves
use Rattle.base_reloc.specs.Moved.{moved_at, byte_of, moved_byte, word_at, first_leaving}
use Rattle.map_faults.specs.Grounds.{WordsFit}
use Rattle.image_services.specs.Placing.{values_from, placed, moved, moved_by, words_of}

-- ---- bytes

abbrev pub AreBytes : List ℕ → Type 0
AreBytes bytes = (k : ℕ) → slice_index bytes k < 256

no_bytes : AreBytes []
no_bytes k = omega arith

one_more : (x : ℕ) (xs : List ℕ) → x < 256 → AreBytes xs → AreBytes (x ∷ xs)
one_more x xs l all zero = l
one_more x xs l all (suc k) = all k

values_small : (f : ℕ → ℕ) (at n : ℕ) → ((k : ℕ) → f k < 256) → AreBytes (values_from f at n)
unfolding values_from
values_small f at zero h = no_bytes
values_small f at (suc n) h = one_more (f at) (values_from f (at + 1) n) (h at) (values_small f (at + 1) n h)

digit_small : (i n : ℕ) → byte_at i n < 256
digit_small zero n = omega arith
digit_small (suc i) n = let h = mod_small (n / 256 ^ suc i) in omega (arith, h)
  where
    mod_small : (m : ℕ) → m % 256 < 256
    mod_small m = omega arith

low_small : (i k n : ℕ) → AreBytes (bytes_low_first i k n)
low_small i zero n = no_bytes
low_small i (suc k) n = one_more (byte_at i n) (bytes_low_first (suc i) k n) (digit_small i n) (low_small (suc i) k n)

digits_small : (n : ℕ) → AreBytes (to_le_bytes w64 n)
digits_small n = low_small 0 8 n

-- ---- bytes of a placed image

section_small : (file : List ℕ) (at : ℕ) (section : Option Section) → AreBytes file → byte_in file at section < 256
section_small file at None all = omega arith
section_small file at (Some section) all = all (section.raw + (at - section.at))

byte_small : (image : Fields) (file : List ℕ) (at : ℕ) → AreBytes file → placed_byte image file at < 256
unfolding placed_byte
byte_small image file at all = by (nat_lt at image.headers)
  where
    by : (b : Bool) → (if b then slice_index file at else byte_in file at (find (copies_to at) image.sections)) < 256
    by true = all at
    by false = section_small file at (find (copies_to at) image.sections) all

pub placed_small : (image : Fields) (file : List ℕ) → AreBytes file → AreBytes (placed image file)
placed_small image file all = values_small (placed_byte image file) 0 _ (λ k. byte_small image file k all)

-- ---- bytes of one that was moved

word_small : (k old : ℕ) (word : Option ℕ) → old < 256 → moves.byte_in k word old < 256
word_small k old None l = l
word_small k old (Some word) l = digits_small word k

site_small : (bytes : List ℕ) (by at : ℕ) (site : Option Site) → AreBytes bytes → byte_of bytes by at site < 256
site_small bytes by at None all = all at
site_small bytes by at (Some site) all = word_small (at - site.at) (slice_index bytes at) (moved_at bytes by site) (all at)

pub moved_small : (bytes out : List ℕ) (sites : List Site) (by : ℕ) → AreBytes bytes → moved bytes sites by ≡ Ok out → AreBytes out
unfolding moved_byte
moved_small bytes out sites by all e = cases (first_leaving bytes by 0 sites) e
  where
    cases : (first : Option ℕ) → moved_by first bytes sites by ≡ Ok out → AreBytes out
    cases None h =
        let is : values_from (moved_byte bytes sites by) 0 (length bytes) ≡ out = cc in
        subst AreBytes is (values_small (moved_byte bytes sites by) 0 (length bytes) (λ k. site_small bytes by k (find (covers k) sites) all))
    cases (Some site) h = let bad : ⊥ = cc in absurd bad

-- ---- words

low_word : (bytes : List ℕ) (at : ℕ) → AreBytes bytes → u32_at bytes at < 2 ^ 32
unfolding u32_at
low_word bytes at all =
    let a = all at in
    let b = all (at + 1) in
    let c = all (at + 2) in
    let d = all (at + 3) in
    omega (arith, a, b, c, d)

long_word : (bytes : List ℕ) (at : ℕ) → AreBytes bytes → u64_at bytes at < 2 ^ 64
unfolding u64_at
long_word bytes at all = let a = low_word bytes at all in let b = low_word bytes (at + 4) all in omega (arith, a, b)

word_low : (kind : SiteKind) (bytes : List ℕ) (at : ℕ) → AreBytes bytes → word_at kind bytes at < 2 ^ (8 * width_of kind)
word_low Dir64 bytes at all = long_word bytes at all
word_low Highlow bytes at all = low_word bytes at all
word_low High20 bytes at all = low_word bytes at all

pub words_fit : (bytes : List ℕ) (sites : List Site) → AreBytes bytes → WordsFit sites (words_of bytes sites)
unfolding WordsFit words_of
words_fit bytes [] all = tt
words_fit bytes (site ∷ sites) all = (word_low site.kind bytes site.at all, words_fit bytes sites all)

-- ---- how many sites

entries_long : (table : List ℕ) (page at n : ℕ) → length (entries_at table page at n) ≡ n
unfolding entries_at
entries_long table page at zero = refl
entries_long table page at (suc n) = ap suc (entries_long table page (at + 2) n)

-- a block and what follows it: they have no more entries than bytes are left
block_long : (table : List ℕ) (at block : ℕ) (rest : ℕ → ℕ → List Part) → at < length table → ((at block : ℕ) → length (rest at block) ≤ length table - at) → length (with_block table at block rest) ≤ length table - at
block_long table at block rest l h = by (nat_lt (length table) (at + 8)) (page == 0 && size == 0) (is_block_size size (length table - at)) refl
  where
    page : ℕ
    page = u32_at table at

    size : ℕ
    size = u32_at table (at + 4)

    by : (short last proper : Bool) → is_block_size size (length table - at) ≡ proper
        → length (if short then Broken block ∷ [] else (if last then [] else (if proper then entries_at table page (at + 8) (entry_count size) ++ rest (at + size) (block + 1) else Broken block ∷ []))) ≤ length table - at
    by true last proper e = omega (arith, l)
    by false true proper e = omega arith
    by false false false e = omega (arith, l)
    by false false true e =
        let some : 8 ≤ size = grind (arith, nat_tests) in
        let few : size ≤ length table - at = grind (arith, nat_tests) in
        let both = length-append (entries_at table page (at + 8) (entry_count size)) (rest (at + size) (block + 1)) in
        let one = entries_long table page (at + 8) (entry_count size) in
        let more = h (at + size) (block + 1) in
        omega (arith, some, few, both, one, more, l)

parts_long : (blocks : ℕ) (table : List ℕ) (at block : ℕ) → length (parts_at blocks table at block) ≤ length table - at
unfolding parts_at
parts_long zero table at block = omega arith
parts_long (suc blocks) table at block = by (nat_le (length table) at) refl (λ a b. parts_long blocks table a b)
  where
    by : (b : Bool) → nat_le (length table) at ≡ b → ((at block : ℕ) → length (parts_at blocks table at block) ≤ length table - at) → length (if b then [] else with_block table at block (parts_at blocks table)) ≤ length table - at
    by true e h = omega arith
    by false e h = block_long table at block (parts_at blocks table) (grind (arith, nat_tests)) h

site_more : (at : ℕ) (kind : EntryKind) (sites : List Site) → length (site_before at kind sites) ≤ suc (length sites)
site_more at (Moved kind) sites = omega arith
site_more at Padding sites = omega arith
site_more at Unmoved sites = omega arith
site_more at Unknown sites = omega arith

entries_few : (parts : List Part) → length (moved_entries parts) ≤ length parts
entries_few [] = omega arith
entries_few (Broken block ∷ parts) = let h = entries_few parts in omega (arith, h)
entries_few (Entry page word ∷ parts) =
    let h = entries_few parts in
    let one = site_more (page + offset_in word) (kind_of (type_in word)) (moved_entries parts) in
    omega (arith, h, one)

-- An image has no more sites than bytes.
pub sites_few : SitesAreEntries → (image : Fields) (bytes : List ℕ) (sites : List Site) → sites_in image bytes ≡ Ok sites → length sites ≤ length bytes
sites_few law image bytes sites e =
    let same = law image bytes sites e in
    let long : length sites ≡ length (moved_entries (parts_of (table_of image bytes))) = ap (λ (s : List Site). length s) same in
    let few = entries_few (parts_of (table_of image bytes)) in
    let parts = parts_long (length (table_of image bytes) - 0) (table_of image bytes) 0 0 in
    let last = image.reloc_at + image.reloc_len - image.reloc_at in
    let a = length-take last (drop image.reloc_at bytes) in
    let b = length-drop image.reloc_at bytes in
    omega (arith, long, few, parts, a, b)

pub values_long : (f : ℕ → ℕ) (at n : ℕ) → length (values_from f at n) ≡ n
unfolding values_from
values_long f at zero = refl
values_long f at (suc n) = ap suc (values_long f (at + 1) n)
