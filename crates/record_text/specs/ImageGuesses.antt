-- The one line on an image file that a text may be the text of.
use Rattle.std.specs.Prelude.{ℕ, ◌^◌, ◌==◌, Bool, List, length, codes, nat_lt, slice_index, true, false, Option, Some, None, if◌then◌else◌}
use Rattle.std.specs.List.{before_first, after_first, position_or_len}
use Rattle.std.specs.Str.{bytes_eq}
use Rattle.uh_base.specs.Numbers.{number_of, hexadecimal_number}
use Rattle.record_text.specs.Guesses.{◌>>=◌, cut, small_number}
use Rattle.record_text.specs.declared.image_line.ImageFault.{ImageFault}
use Rattle.record_text.specs.declared.image_line.ImageFault.TheVariants as faults
use Rattle.record_text.specs.declared.image_line.ImageLine.{ImageLine}
use Rattle.record_text.specs.declared.image_line.ImageLine.TheVariants.{Image, Section, Site, Listed, Word, Half, NoInstruction, LastByte, Refused, End}
use Rattle.record_text.specs.declared.image_line.RelocKind.{RelocKind}
use Rattle.record_text.specs.declared.image_line.RelocKind.TheVariants.{Dir64, Highlow, High20}

-- what stands before the first byte of a kind, and what behind it
abbrev pub is_mark : ℕ → ℕ → Bool
is_mark mark b = b == mark

unfoldable pub cut_at : ℕ → List ℕ → Option (List ℕ × List ℕ)
cut_at mark text = if nat_lt (position_or_len (is_mark mark) text) (length text) then Some (before_first (is_mark mark) text, after_first (is_mark mark) text) else None

-- a number of so many bits
abbrev pub below : ℕ → ℕ → Option ℕ
below bits n = if nat_lt n (2 ^ bits) then Some n else None

unfoldable pub short_number : List ℕ → Option ℕ
short_number text = number_of text >>= below 16

unfoldable pub kind_of : List ℕ → Option RelocKind
kind_of word =
    if bytes_eq word (codes "dir64") then Some Dir64
    else (if bytes_eq word (codes "highlow") then Some Highlow
    else (if bytes_eq word (codes "high20") then Some High20 else None))

unfoldable pub plain_fault : List ℕ → Option ImageFault
plain_fault name =
    if bytes_eq name (codes "Magic") then Some faults.Magic
    else (if bytes_eq name (codes "Machine") then Some faults.Machine
    else (if bytes_eq name (codes "Header") then Some faults.Header
    else (if bytes_eq name (codes "Subsystem") then Some faults.Subsystem
    else (if bytes_eq name (codes "Alignment") then Some faults.Alignment
    else (if bytes_eq name (codes "TooLarge") then Some faults.TooLarge
    else (if bytes_eq name (codes "EntryOutside") then Some faults.EntryOutside
    else (if bytes_eq name (codes "Directory") then Some faults.Directory else None)))))))

unfoldable pub numbered_fault : List ℕ → ℕ → Option ImageFault
numbered_fault name n =
    if bytes_eq name (codes "Truncated") then (below 32 n >>= λ n. Some (faults.Truncated n))
    else (if bytes_eq name (codes "SectionOutside") then (below 16 n >>= λ n. Some (faults.SectionOutside n))
    else (if bytes_eq name (codes "SectionOverlap") then (below 16 n >>= λ n. Some (faults.SectionOverlap n))
    else (if bytes_eq name (codes "BlockSize") then (below 32 n >>= λ n. Some (faults.BlockSize n))
    else (if bytes_eq name (codes "Kind") then (below 32 n >>= λ n. Some (faults.Kind n))
    else (if bytes_eq name (codes "Outside") then (below 32 n >>= λ n. Some (faults.Outside n))
    else (if bytes_eq name (codes "Overlap") then (below 32 n >>= λ n. Some (faults.Overlap n))
    else (if bytes_eq name (codes "Range32") then (below 32 n >>= λ n. Some (faults.Range32 n)) else None)))))))

-- the fault of a name and of what stands behind `(`, up to `)`
unfoldable pub with_number : List ℕ → List ℕ → Option ImageFault
with_number name rest = do
  number ← cut_at 41 rest
  n ← number_of number.0
  numbered_fault name n

abbrev pub by_parts : List ℕ → Option (List ℕ × List ℕ) → Option ImageFault
by_parts text None = plain_fault text
by_parts text (Some parts) = with_number parts.0 parts.1

unfoldable pub fault_of : List ℕ → Option ImageFault
fault_of text = by_parts text (cut_at 40 text)

unfoldable pub stripped_of : List ℕ → Option Bool
stripped_of word = if bytes_eq word (codes "stripped") then Some true else (if bytes_eq word (codes "relocatable") then Some false else None)

unfoldable pub image_of : List ℕ → Option ImageLine
image_of text = do
  first ← cut text
  second ← cut first.1
  third ← cut second.1
  fourth ← cut third.1
  fifth ← cut fourth.1
  subsystem ← short_number first.0
  base ← hexadecimal_number second.0
  size ← small_number third.0
  entry ← small_number fourth.0
  alignment ← small_number fifth.0
  is_stripped ← stripped_of fifth.1
  Some (Image subsystem base size entry alignment is_stripped)

-- the byte at a place is this letter
abbrev pub has : List ℕ → ℕ → ℕ → Bool
has text at letter = slice_index text at == letter

abbrev pub with_rights : ℕ → ℕ → ℕ → ℕ → List ℕ → Option ImageLine
with_rights number at len copied rights =
    if length rights == 3 then Some (Section number at len copied (has rights 0 114) (has rights 1 119) (has rights 2 120)) else None

-- a section behind its number
unfoldable pub section_of : ℕ → List ℕ → Option ImageLine
section_of number text = do
  first ← cut text
  second ← cut first.1
  third ← cut second.1
  at ← small_number first.0
  len ← small_number second.0
  copied ← small_number third.0
  with_rights number at len copied third.1

abbrev pub listed : List ℕ → Option ImageLine
listed text = short_number text >>= λ number. Some (Listed number)

abbrev pub by_number : List ℕ → Option (List ℕ × List ℕ) → Option ImageLine
by_number text None = listed text
by_number text (Some parts) = short_number parts.0 >>= λ number. section_of number parts.1

unfoldable pub section_or_listed : List ℕ → Option ImageLine
section_or_listed text = by_number text (cut text)

unfoldable pub site_of : List ℕ → Option ImageLine
site_of text = do
  word ← cut text
  kind ← kind_of word.0
  at ← small_number word.1
  Some (Site kind at)

unfoldable pub refused_of : List ℕ → Option ImageLine
refused_of text = fault_of text >>= λ fault. Some (Refused fault)

unfoldable pub with_word : List ℕ → List ℕ → Option ImageLine
with_word word rest =
    if bytes_eq word (codes "image") then image_of rest
    else (if bytes_eq word (codes "section") then section_or_listed rest
    else (if bytes_eq word (codes "site") then site_of rest
    else (if bytes_eq word (codes "refused") then refused_of rest else None)))

-- ---- code, behind its offset

abbrev pub half_line : ℕ → List ℕ → ℕ → ImageLine
half_line at text half = if bytes_eq text (codes "-") then NoInstruction at half else Half at half text

-- the line of a word of so many digits
unfoldable pub by_digits : ℕ → ℕ → ℕ → List ℕ → Option ImageLine
by_digits at digits n text =
    if digits == 8 then (below 32 n >>= λ word. Some (Word at word text))
    else (if digits == 4 then (below 16 n >>= λ half. Some (half_line at text half))
    else (if digits == 2 then (below 8 n >>= λ byte. Some (LastByte at byte)) else None))

unfoldable pub code_of : ℕ → List ℕ → Option ImageLine
code_of offset text = do
  at ← below 32 offset
  word ← cut text
  n ← hexadecimal_number word.0
  by_digits at (length word.0) n word.1

-- ---- all lines

-- code where the first word is an offset
abbrev pub by_offset : List ℕ → List ℕ → Option ℕ → Option ImageLine
by_offset word rest None = with_word word rest
by_offset word rest (Some offset) = code_of offset rest

unfoldable pub behind_word : List ℕ → List ℕ → Option ImageLine
behind_word word rest = by_offset word rest (hexadecimal_number word)

abbrev pub without_word : List ℕ → Option ImageLine
without_word text = if bytes_eq text (codes "end") then Some End else None

abbrev pub by_cut : List ℕ → Option (List ℕ × List ℕ) → Option ImageLine
by_cut text None = without_word text
by_cut text (Some parts) = behind_word parts.0 parts.1

unfoldable pub guess_of : List ℕ → Option ImageLine
guess_of text = by_cut text (cut text)
