-- The table of base relocations is read as its sites.
use Rattle.std.proofs.Common.{◌≡◌, ℕ, suc, ◌+◌, ◌-◌, ◌*◌, ◌/◌, ◌%◌, ◌^◌, ◌<◌, ◌≤◌, ◌&&◌, Bool, true, false, not, cond, ltb, eqb, List, [], ◌∷◌, ◌++◌, length, map, drop, Some, None, Ok, refl, sym, ap, ◌∙◌, append_assoc, length-append, All, arith, inl, inr}
use Rattle.std.proofs.lemmas.Bool.{cases_Bool}
use Rattle.std.proofs.lemmas.Bool.Decides.{nat_tests}
use Rattle.std.specs.Prelude.{nat_le, if◌then◌else◌}
use Rattle.std.proofs.lemmas.List.{length-drop, append-nil}
use Rattle.std.proofs.lemmas.List.Folds.{list_any-append}
use Rattle.std.proofs.lemmas.List.Sums.{prefix_len-le-length}
use Rattle.std.specs.List.{prefix_len, list_any}
use Rattle.std.proofs.lemmas.Bool.{le-leb, le-ltb, ne_eqb, eqb-true}
use Rattle.uh_base.specs.LittleEndian.{low_bytes}
use Rattle.pe_image.specs.Numbers.{u32_at}
use Rattle.base_reloc.specs.Blocks.{Part, entries_at, parts_at, with_block, parts_from, parts_of}
use Rattle.base_reloc.specs.Kept.{kept_with, kind_of, type_in, offset_in, sites_from}
use Rattle.base_reloc.specs.Sites.{width_of, meets}
use Rattle.base_reloc.specs.declared.site.Site.{Site as ReadSite}
use Rattle.base_reloc.specs.declared.entry.EntryKind.TheVariants.{Moved}
use Rattle.guest_build.specs.Relocations.{page_of, type_of, is_on, entry_bytes, block_header, padding, table_behind, table_of}
use Rattle.guest_build.specs.Read.{kind_read, site_read}
use Rattle.guest_build.specs.declared.relocation.Site.{Site}
use Rattle.guest_build.specs.declared.relocation.SiteKind.{SiteKind}
use Rattle.guest_build.specs.declared.relocation.SiteKind.TheVariants as kinds
use Rattle.guest_build.proofs.LowLemmas.{length-low_bytes}
use Rattle.guest_build.proofs.TableLemmas.{behind_on, behind_off, behind_all, length_on, length_off}
use Rattle.guest_build.proofs.NumberLemmas.{u16_there, u32_there, behind_there}
use Rattle.guest_build.proofs.Sound.{AreIn, end_of}

-- ---- sites behind one another

-- sites from an offset on, ascending and apart, in so many bytes
abbrev pub Ascend : (size from : ℕ) → List Site → Type 0
Ascend size from [] = from ≤ size
Ascend size from (site ∷ others) = (from ≤ site.at) × Ascend size (end_of site) others

-- no kept site has a byte from an offset on
abbrev IsFree : ℕ → List ReadSite → Type 0
IsFree from kept = (at width : ℕ) → from ≤ at → list_any (meets at width) kept ≡ false

width_low : (kind : SiteKind) → 4 ≤ width_of (kind_read kind)
width_low kinds.High20 = omega arith
width_low kinds.Dir64 = omega arith

pub ascend : (size from : ℕ) (sites : List Site) → Ascend size from sites → from + 4 * length sites ≤ size
ascend size from [] h = omega arith
ascend size from (site ∷ others) h = omega (arith, ascend size (end_of site) others h.1, width_low site.kind)

free_more : (from : ℕ) (kept : List ReadSite) (site : Site) → from ≤ site.at → IsFree from kept → IsFree (end_of site) (kept ++ site_read site ∷ [])
free_more from kept site low free at width high =
    let apart : ltb at (end_of site) ≡ false = le-ltb at (end_of site) high in
    let not_met : meets at width (site_read site) ≡ false = elim (cases_Bool (ltb site.at (at + width))) [
      | inl before ↦ rw (before, apart) refl
      | inr behind ↦ rw behind refl
    ] in
    list_any-append (meets at width) kept (site_read site ∷ []) ∙ rw (free at width (omega arith), not_met) refl

-- ---- an entry is kept

kind_there : (kind : SiteKind) (n : ℕ) → n < 4096 → kind_of (type_in (type_of kind * 4096 + n)) ≡ Moved (kind_read kind)
kind_there kinds.High20 n small = let e : (20480 + n) / 4096 ≡ 5 = omega arith in rw e refl
kind_there kinds.Dir64 n small = let e : (40960 + n) / 4096 ≡ 10 = omega arith in rw e refl

word_fits : (kind : SiteKind) (n : ℕ) → n < 4096 → type_of kind * 4096 + n < 65536
word_fits kinds.High20 n small = omega arith
word_fits kinds.Dir64 n small = omega arith

entry_kept : (size from : ℕ) (kept : List ReadSite) (i page : ℕ) (site : Site) → IsFree from kept → from ≤ site.at → end_of site ≤ size → page_of site ≡ page
    → kept_with size kept i (page * 4096 + offset_in (type_of site.kind * 4096 + site.at % 4096)) (kind_of (type_in (type_of site.kind * 4096 + site.at % 4096))) ≡ Ok (kept ++ site_read site ∷ [])
entry_kept size from kept i page site free low fits same =
    let place : page * 4096 + offset_in (type_of site.kind * 4096 + site.at % 4096) ≡ site.at = omega arith in
    rw (kind_there site.kind (site.at % 4096) (omega arith), place, le-ltb size (end_of site) fits, free site.at (width_of (kind_read site.kind)) low) refl

-- ---- how many entries a block still has

abbrev bit : Bool → ℕ
bit odd = cond odd 1 0

-- with its padding entry
abbrev left : ℕ → Bool → List Site → ℕ
left page odd sites = prefix_len (is_on (Some page)) sites + (bit odd + prefix_len (is_on (Some page)) sites) % 2

left_on : (page : ℕ) (odd : Bool) (site : Site) (others : List Site) → is_on (Some page) site ≡ true → left page odd (site ∷ others) ≡ suc (left page (not odd) others)
left_on page true site others h = rw h (omega arith)
left_on page false site others h = rw h (omega arith)

left_off : (page : ℕ) (odd : Bool) (site : Site) (others : List Site) → is_on (Some page) site ≡ false → left page odd (site ∷ others) ≡ bit odd
left_off page true site others h = rw h refl
left_off page false site others h = rw h refl

left_all : (page : ℕ) (odd : Bool) → left page odd [] ≡ bit odd
left_all page true = refl
left_all page false = refl

length-padding : (odd : Bool) → length (padding odd) ≡ 2 * bit odd
length-padding true = refl
length-padding false = refl

left_fits : (page : ℕ) (odd : Bool) (sites : List Site) → 2 * left page odd sites ≤ length (table_behind (Some page) odd sites)
left_fits page odd [] = omega (arith, left_all page odd, ap length (behind_all (Some page) odd), length-padding odd)
left_fits page odd (site ∷ others) = elim (cases_Bool (is_on (Some page) site)) [
  | inl on ↦ omega (arith, left_on page odd site others on, length_on (Some page) odd site others on, left_fits page (not odd) others)
  | inr off ↦ omega (arith, left_off page odd site others off, length_off (Some page) odd site others off, length-padding odd)
]

-- ---- block by block

block_is : (table : List ℕ) (at block page size : ℕ) (f : ℕ → ℕ → List Part) → u32_at table at ≡ page → u32_at table (at + 4) ≡ size → 8 ≤ size → size % 2 ≡ 0 → at + size ≤ length table
    → with_block table at block f ≡ entries_at table page (at + 8) ((size - 8) / 2) ++ f (at + size) (block + 1)
block_is table at block page size f is_page is_size wide even inside =
    let some : eqb size 0 ≡ false = ne_eqb size 0 (λ none. absurd (omega arith)) in
    let more : (eqb page 0 && eqb size 0) ≡ false = elim (cases_Bool (eqb page 0)) [
      | inl first ↦ rw (first, some) refl
      | inr other ↦ rw other refl
    ] in
    rw (is_page, is_size, le-ltb (length table) (at + 8) (omega arith), more, le-leb 8 size wide, even, le-leb size (length table - at) (omega arith)) refl

length-header : (page count : ℕ) → length (block_header page count) ≡ 8
length-header page count = length-append (low_bytes 4 (page * 4096)) (low_bytes 4 (8 + 2 * (count + count % 2))) ∙ rw (length-low_bytes 4 (page * 4096), length-low_bytes 4 (8 + 2 * (count + count % 2))) refl

-- the blocks of a table follow each other, as a law says
abbrev Follow : List ℕ → Type 0
Follow table = (at block : ℕ) → parts_from table at block ≡ (if nat_le (length table) at then [] else with_block table at block (parts_from table))

abbrev pub BlocksFollow : Type 0
BlocksFollow = (table : List ℕ) → Follow table

module _ (size : ℕ) (small : size ≤ 1048576) (table : List ℕ) (blocks : Follow table) where
  parts_next : (at block : ℕ) → at < length table → parts_from table at block ≡ with_block table at block (parts_from table)
  parts_next at block below = let under : nat_le (length table) at ≡ false = grind (arith, nat_tests) in rw under at (blocks at block)

  parts_end : (at block : ℕ) → length table ≤ at → parts_from table at block ≡ []
  parts_end at block over = let none : nat_le (length table) at ≡ true = grind (arith, nat_tests) in rw none at (blocks at block)

  entry_read : (from : ℕ) (kept : List ReadSite) (i page at n : ℕ) (site : Site) (rest : List ℕ) (parts : List Part) → IsFree from kept → from ≤ site.at → end_of site ≤ size → page_of site ≡ page
      → drop at table ≡ entry_bytes site ++ rest
      → sites_from size kept i (entries_at table (page * 4096) at (suc n) ++ parts) ≡ sites_from size (kept ++ site_read site ∷ []) (i + 1) (entries_at table (page * 4096) (at + 2) n ++ parts)
  unfolding entries_at sites_from
  entry_read from kept i page at n site rest parts free low fits same e =
      rw (u16_there table rest at (type_of site.kind * 4096 + site.at % 4096) (word_fits site.kind (site.at % 4096) (omega arith)) e, entry_kept size from kept i page site free low fits same) refl

  padding_read : (kept : List ReadSite) (i page at : ℕ) (odd : Bool) (rest : List ℕ) (parts : List Part) → drop at table ≡ padding odd ++ rest
      → sites_from size kept i (entries_at table page at (bit odd) ++ parts) ≡ sites_from size kept (i + bit odd) parts
  unfolding entries_at sites_from low_bytes
  padding_read kept i page at true rest parts e = rw (u16_there table rest at 0 (omega arith) e) refl
  padding_read kept i page at false rest parts e = let none : i + 0 ≡ i = omega arith in rw none refl

  -- what is left of a block, and the blocks behind it
  abbrev Reads : List Site → Type 0
  Reads sites = (from : ℕ) (kept : List ReadSite) (i page at block : ℕ) (odd : Bool) → IsFree from kept → Ascend size from sites → drop at table ≡ table_behind (Some page) odd sites
      → sites_from size kept i (entries_at table (page * 4096) at (left page odd sites) ++ parts_from table (at + 2 * left page odd sites) block) ≡ Ok (kept ++ map site_read sites)

  block_read : (site : Site) (others : List Site) (from : ℕ) (kept : List ReadSite) (i at block : ℕ) → Reads others → IsFree from kept → Ascend size from (site ∷ others)
      → drop at table ≡ block_header (page_of site) (1 + prefix_len (is_on (Some (page_of site))) others) ++ (entry_bytes site ++ table_behind (Some (page_of site)) true others)
      → sites_from size kept i (parts_from table at block) ≡ Ok (kept ++ map site_read (site ∷ others))
  block_read site others from kept i at block reads_others free asc e =
      let page : ℕ = page_of site in
      let count : ℕ = 1 + prefix_len (is_on (Some page)) others in
      let bytes : ℕ = 8 + 2 * (count + count % 2) in
      let rest : List ℕ = entry_bytes site ++ table_behind (Some page) true others in
      let more : ℕ = left page true others in
      let headed : drop at table ≡ low_bytes 4 (page * 4096) ++ (low_bytes 4 bytes ++ rest) = e ∙ append_assoc (low_bytes 4 (page * 4096)) (low_bytes 4 bytes) rest in
      let behind : drop (at + 4) table ≡ low_bytes 4 bytes ++ rest = behind_there table (low_bytes 4 (page * 4096)) (low_bytes 4 bytes ++ rest) at 4 (length-low_bytes 4 (page * 4096)) headed in
      let entry : drop (at + 8) table ≡ rest = behind_there table (block_header page count) rest at 8 (length-header page count) e in
      let next : drop (at + 8 + 2) table ≡ table_behind (Some page) true others = behind_there table (entry_bytes site) (table_behind (Some page) true others) (at + 8) 2 (length-low_bytes 2 _) entry in
      let long : at + 8 + 2 + length (table_behind (Some page) true others) ≡ length table = omega (arith, ap length entry, length-drop (at + 8) table, length-append (entry_bytes site) (table_behind (Some page) true others), length-low_bytes 2 (type_of site.kind * 4096 + site.at % 4096)) in
      let fits = left_fits page true others in
      let room = ascend size (end_of site) others asc.1 in
      let short = prefix_len-le-length (is_on (Some page)) others in
      let page_is : u32_at table at ≡ page * 4096 = u32_there table (low_bytes 4 bytes ++ rest) at (page * 4096) (omega arith) headed in
      let size_is : u32_at table (at + 4) ≡ bytes = u32_there table rest (at + 4) bytes (omega arith) behind in
      let entries : (bytes - 8) / 2 ≡ suc more = omega arith in
      let onward : at + bytes ≡ at + 8 + 2 + 2 * more = omega arith in
      let first = parts_next at block (omega arith) ∙ block_is table at block (page * 4096) bytes (parts_from table) page_is size_is (omega arith) (omega arith) (omega arith) in
      ap (sites_from size kept i) first
      ∙ rw (entries, onward) (entry_read from kept i page (at + 8) more site (table_behind (Some page) true others) (parts_from table (at + 8 + 2 + 2 * more) (block + 1)) free asc.0 (omega arith) refl entry
      ∙ reads_others (end_of site) (kept ++ site_read site ∷ []) (i + 1) page (at + 8 + 2) (block + 1) true (free_more from kept site asc.0 free) asc.1 next
      ∙ ap Ok (append_assoc kept (site_read site ∷ []) (map site_read others)))

  reads : (sites : List Site) → Reads sites
  unfolding sites_from
  reads [] from kept i page at block odd free asc e =
      let there = e ∙ behind_all (Some page) odd in
      let over : length table ≤ at + 2 * bit odd = omega (arith, ap length there, length-drop at table, length-padding odd) in
      rw (left_all page odd)
      (padding_read kept i (page * 4096) at odd [] (parts_from table (at + 2 * bit odd) block) (there ∙ sym (append-nil (padding odd)))
      ∙ ap (sites_from size kept (i + bit odd)) (parts_end (at + 2 * bit odd) block over) ∙ ap Ok (sym (append-nil kept)))
  reads (site ∷ others) from kept i page at block odd free asc e = elim (cases_Bool (is_on (Some page) site)) [
    | inl on ↦
        let more : ℕ = left page (not odd) others in
        let there = e ∙ behind_on (Some page) odd site others on in
        let next : drop (at + 2) table ≡ table_behind (Some page) (not odd) others = behind_there table (entry_bytes site) _ at 2 (length-low_bytes 2 _) there in
        let onward : at + 2 * suc more ≡ at + 2 + 2 * more = omega arith in
        let room = ascend size (end_of site) others asc.1 in
        rw (left_on page odd site others on)
        (rw onward (entry_read from kept i page at more site (table_behind (Some page) (not odd) others) (parts_from table (at + 2 + 2 * more) block) free asc.0 (omega arith) (eqb-true (page_of site) page on) there
        ∙ reads others (end_of site) (kept ++ site_read site ∷ []) (i + 1) page (at + 2) block (not odd) (free_more from kept site asc.0 free) asc.1 next
        ∙ ap Ok (append_assoc kept (site_read site ∷ []) (map site_read others))))
    | inr off ↦
        let there = e ∙ behind_off (Some page) odd site others off in
        rw (left_off page odd site others off)
        (padding_read kept i (page * 4096) at odd _ (parts_from table (at + 2 * bit odd) block) there
        ∙ block_read site others from kept (i + bit odd) (at + 2 * bit odd) block (reads others) free asc (behind_there table (padding odd) _ at (2 * bit odd) (length-padding odd) there))
  ]

-- ---- all sites

ascends : (size from : ℕ) (sites : List Site) → AreIn size sites → from ≤ size → All (λ (site : Site). from ≤ site.at) sites → Ascend size from sites
ascends size from [] h fits low = fits
ascends size from (site ∷ others) h fits low =
    let rest : AreIn size others = record {
      inside = λ k d below. h.inside (suc k) d (omega arith);
      ascending = λ i j d before below. h.ascending (suc i) (suc j) d (omega arith) (omega arith);
    } in
    (low 0 site (omega arith), ascends size (end_of site) others rest (h.inside 0 site (omega arith)) (λ k d below. h.ascending 0 (suc k) d (omega arith) (omega arith)))

pub ascending : (size : ℕ) (sites : List Site) → AreIn size sites → Ascend size 0 sites
ascending size sites h = ascends size 0 sites h (omega arith) (λ k d below. omega arith)

-- the table of ascending sites is read as these sites
pub ascending_kept : BlocksFollow → (size : ℕ) (sites : List Site) → Ascend size 0 sites → size ≤ 2 ^ 20 → sites_from size [] 0 (parts_of (table_of sites)) ≡ Ok (map site_read sites)
unfolding table_of table_behind parts_at sites_from
ascending_kept blocks size [] h small = refl
ascending_kept blocks size (site ∷ others) h small =
    block_read size small (table_of (site ∷ others)) (blocks (table_of (site ∷ others))) site others 0 [] 0 0 0 (reads size small (table_of (site ∷ others)) (blocks (table_of (site ∷ others))) others) (λ at width low. refl) h (behind_off None false site others refl)
