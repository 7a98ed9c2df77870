-- What moving an image makes of a site's word (PE/COFF, "Base Relocation Types").
use Rattle.std.specs.Prelude.{ℕ, ℤ, pos, ◌+◌, ◌-◌, ◌*◌, ◌/◌, ◌%◌, ◌^◌, ◌-ℤ◌, List, [], ◌∷◌, Bool, ◌&&◌, nat_lt, slice_index, find, int_le, Option, Some, None, is_none, Result, Ok, Err, if◌then◌else◌}
use Rattle.std.specs.Int.{cast_signed, cast_unsigned, to_le_bytes, w32, w64}
use Rattle.pe_image.specs.Numbers.{u32_at, u64_at}
use Rattle.base_reloc.specs.declared.fault.RelocFault.{RelocFault}
use Rattle.base_reloc.specs.declared.fault.RelocFault.TheVariants as faults
use Rattle.base_reloc.specs.declared.site.Site.{Site}
use Rattle.base_reloc.specs.declared.site.SiteKind.{SiteKind}
use Rattle.base_reloc.specs.declared.site.SiteKind.TheVariants.{Dir64, Highlow, High20}
use Rattle.base_reloc.specs.Sites.{covers}

-- a sum of 64 bits
abbrev pub sum : ℕ → ℕ → ℕ
sum n displacement = (n + displacement) % 2 ^ 64

-- bits 31 to 12 of a word as a signed multiple of 4,096, in 64 bits
abbrev pub upper_of : ℕ → ℕ
upper_of word = cast_unsigned w64 (cast_signed w32 (word / 2 ^ 12 * 2 ^ 12))

-- a signed multiple of 4,096 that bits 31 to 12 can hold
abbrev pub fits_upper : ℤ → Bool
fits_upper z = int_le (pos 0 -ℤ pos (2 ^ 31)) z && int_le z (pos (2 ^ 31 - 4096))

-- a word with bits 31 to 12 of a number
abbrev pub with_upper : ℕ → ℕ → ℕ
with_upper word n = n / 2 ^ 12 % 2 ^ 20 * 2 ^ 12 + word % 2 ^ 12

-- the moved word, where it is in its range
unfoldable pub moved_word : SiteKind → ℕ → ℕ → Option ℕ
moved_word Dir64 word displacement = Some (sum word displacement)
moved_word Highlow word displacement = if nat_lt (sum word displacement) (2 ^ 32) then Some (sum word displacement) else None
moved_word High20 word displacement = let moved = sum (upper_of word) displacement in if fits_upper (cast_signed w64 moved) then Some (with_upper word moved) else None

-- the word of a site of a kind at an offset
abbrev pub word_at : SiteKind → List ℕ → ℕ → ℕ
word_at Dir64 bytes at = u64_at bytes at
word_at Highlow bytes at = u32_at bytes at
word_at High20 bytes at = u32_at bytes at

abbrev pub moved_at : List ℕ → ℕ → Site → Option ℕ
moved_at bytes displacement site = moved_word site.kind (word_at site.kind bytes site.at) displacement

-- the k-th byte of a word, the least first
abbrev pub byte_in : ℕ → Option ℕ → ℕ → ℕ
byte_in k None old = old
byte_in k (Some word) old = slice_index (to_le_bytes w64 word) k

abbrev pub byte_of : List ℕ → ℕ → ℕ → Option Site → ℕ
byte_of bytes displacement at None = slice_index bytes at
byte_of bytes displacement at (Some site) = byte_in (at - site.at) (moved_at bytes displacement site) (slice_index bytes at)

-- A byte that a site has is that of its moved word; any other is as it was.
unfoldable pub moved_byte : List ℕ → List Site → ℕ → ℕ → ℕ
moved_byte bytes sites displacement at = byte_of bytes displacement at (find (covers at) sites)

-- the number of the first site whose moved word leaves its range, of sites that are numbered from i on
unfoldable pub first_leaving : List ℕ → ℕ → ℕ → List Site → Option ℕ
first_leaving bytes displacement i [] = None
first_leaving bytes displacement i (site ∷ sites) = if is_none (moved_at bytes displacement site) then Some i else first_leaving bytes displacement (i + 1) sites

abbrev pub all_or_range : Option ℕ → Result (Unit {0}) RelocFault
all_or_range None = Ok tt
all_or_range (Some i) = Err (faults.Range32 i)
