-- Which entries are kept as sites, or the first fault (PE/COFF, "Base Relocation Types").
use Rattle.std.specs.Prelude.{◌≡◌, ℕ, ◌+◌, ◌/◌, ◌%◌, ◌^◌, List, [], ◌∷◌, ◌++◌, ◌==◌, nat_lt, Result, Ok, Err, if◌then◌else◌}
use Rattle.std.specs.List.{list_any}
use Rattle.pe_image.specs.ImageOf.{Fields}
use Rattle.base_reloc.specs.declared.fault.RelocFault.{RelocFault}
use Rattle.base_reloc.specs.declared.fault.RelocFault.TheVariants as faults
use Rattle.base_reloc.specs.declared.site.Site.{Site}
use Rattle.base_reloc.specs.declared.site.SiteKind.TheVariants.{Dir64, Highlow, High20}
use Rattle.base_reloc.specs.declared.entry.EntryKind.{EntryKind}
use Rattle.base_reloc.specs.declared.entry.EntryKind.TheVariants.{Padding, Moved, Unmoved, Unknown}
use Rattle.base_reloc.specs.Sites.{width_of, meets}
use Rattle.base_reloc.specs.Blocks.{Part, Entry, Broken, parts_of, table_of}

infixl 10 ◌>>=◌
abbrev pub ◌>>=◌ : {A B : Type 0} → Result A RelocFault → (A → Result B RelocFault) → Result B RelocFault
(Ok x) >>= f = f x
(Err e) >>= f = Err e

-- the upper four bits are the type, the lower twelve the offset in the page
abbrev pub type_in : ℕ → ℕ
type_in word = word / 2 ^ 12

abbrev pub offset_in : ℕ → ℕ
offset_in word = word % 2 ^ 12

-- IMAGE_REL_BASED_ABSOLUTE, HIGHLOW, RISCV_HIGH20, RISCV_LOW12I, RISCV_LOW12S and DIR64
abbrev pub kind_of : ℕ → EntryKind
kind_of n =
    if n == 0 then Padding
    else (if n == 3 then Moved Highlow
    else (if n == 5 then Moved High20
    else (if n == 7 then Unmoved
    else (if n == 8 then Unmoved
    else (if n == 10 then Moved Dir64 else Unknown)))))

-- The i-th entry has bytes that lie in the image and that no kept site has.
abbrev pub with_room : {X : Type 0} → ℕ → List Site → ℕ → ℕ → ℕ → X → Result X RelocFault
with_room size kept i at width x =
    if nat_lt size (at + width) then Err (faults.Outside i) else (if list_any (meets at width) kept then Err (faults.Overlap i) else Ok x)

-- the sites that are kept behind the i-th entry
abbrev pub kept_with : ℕ → List Site → ℕ → ℕ → EntryKind → Result (List Site) RelocFault
kept_with size kept i at Padding = Ok kept
kept_with size kept i at Unknown = Err (faults.Kind i)
kept_with size kept i at Unmoved = with_room size kept i at 4 kept
kept_with size kept i at (Moved kind) = with_room size kept i at (width_of kind) (kept ++ record { at = at; kind = kind } ∷ [])

-- the sites of entries that are numbered from i on
unfoldable pub sites_from : ℕ → List Site → ℕ → List Part → Result (List Site) RelocFault
sites_from size kept i [] = Ok kept
sites_from size kept i (Broken block ∷ parts) = Err (faults.BlockSize block)
sites_from size kept i (Entry page word ∷ parts) = kept_with size kept i (page + offset_in word) (kind_of (type_in word)) >>= λ sites. sites_from size sites (i + 1) parts

-- the sites of a placed image, or the first fault
unfoldable pub sites_in : Fields → List ℕ → Result (List Site) RelocFault
sites_in image placed = sites_from image.size [] 0 (parts_of (table_of image placed))

-- ---- what a call answers

-- unless memory ran out, the fault is that of judging
abbrev pub Stops : {Y : Type 0} → RelocFault → Result Y RelocFault → Type 0
Stops faults.Memory judged = Unit {0}
Stops fault judged = judged ≡ Err fault

abbrev pub Reads : {X Y : Type 0} → (X → Y) → Result X RelocFault → Result Y RelocFault → Type 0
Reads view (Ok x) judged = judged ≡ Ok (view x)
Reads view (Err fault) judged = Stops fault judged
