-- The instructions of code, in lines (RISC-V unprivileged manual, version 20191213, 1.5: the low two bits of an
-- instruction's first half are 11 where it has 4 bytes).
use Rattle.std.specs.Prelude.{ℕ, zero, suc, ◌≡◌, ◌<◌, ◌≤◌, ◌+◌, ◌-◌, ◌/◌, ◌%◌, ◌^◌, ◌==◌, List, [], ◌∷◌, length, slice_index, nat_le, Bool, not, Option, Some, None, All, if◌then◌else◌}
use Rattle.std.specs.List.{flat_map}
use Rattle.uh_base.specs.LittleEndian.{low_bytes}
use Rattle.pe_image.specs.Numbers.{u16_at}
use Rattle.rv_decode.specs.declared.insn.Insn.{Insn}
use Rattle.rv_decode.specs.Means.{decoded}
use Rattle.rv_decode.specs.Rows.{word_of}
use Rattle.rv_decode.specs.Texts.{text_of}
use Rattle.record_text.specs.declared.image_line.ImageLine.{ImageLine}
use Rattle.record_text.specs.declared.image_line.ImageLine.TheVariants as lines
use Rattle.record_text.specs.ImageTexts.{IsImageLine}
use Rattle.image_dump.specs.Reports.{bytes_of}

-- a line, and how many bytes it is of
pub record Front : Type 0 where
  pub line : ImageLine
  pub len : ℕ

-- a half whose low two bits are 11 is the first of two
abbrev pub is_first_of_two : ℕ → Bool
is_first_of_two half = half % 4 == 3

abbrev pub no_instruction : ℕ → ℕ → Front
no_instruction at half = record { line = lines.NoInstruction at half; len = 2 }

abbrev pub half_front : ℕ → ℕ → Option (Insn × ℕ) → Front
half_front at half (Some found) = record { line = lines.Half at half (text_of found.0); len = 2 }
half_front at half None = no_instruction at half

abbrev pub word_front : ℕ → ℕ → ℕ → Option (Insn × ℕ) → Front
word_front at half0 half1 (Some found) = record { line = lines.Word at (word_of half0 half1) (text_of found.0); len = 4 }
word_front at half0 half1 None = no_instruction at half0

abbrev pub last_byte : ℕ → ℕ → Front
last_byte at byte = record { line = lines.LastByte at byte; len = 1 }

-- what stands at the front of bytes of code that begin at an offset
unfoldable pub front : ℕ → List ℕ → Front
front at bytes =
    if length bytes == 1 then last_byte at (slice_index bytes 0)
    else (if not (is_first_of_two (u16_at bytes 0)) then half_front at (u16_at bytes 0) (decoded (u16_at bytes 0) 0)
    else (if nat_le 4 (length bytes) then word_front at (u16_at bytes 0) (u16_at bytes 2) (decoded (u16_at bytes 0) (u16_at bytes 2))
    else no_instruction at (u16_at bytes 0)))

-- The lines of code that begins at an offset. A byte begins a line, or it is one of so many more of the line before.
unfoldable pub lines_from : ℕ → ℕ → List ℕ → List ImageLine
lines_from at more [] = []
lines_from at zero (byte ∷ bytes) = (front at (byte ∷ bytes)).line ∷ lines_from (at + 1) ((front at (byte ∷ bytes)).len - 1) bytes
lines_from at (suc more) (byte ∷ bytes) = lines_from (at + 1) more bytes

-- the text of those lines
abbrev pub listing : ℕ → List ℕ → List ℕ
listing at bytes = bytes_of (lines_from at 0 bytes)

-- ---- what the lines say

-- the bytes of a line's word
abbrev pub bytes_in : ImageLine → List ℕ
bytes_in (lines.Word at word text) = low_bytes 4 word
bytes_in (lines.Half at half text) = low_bytes 2 half
bytes_in (lines.NoInstruction at half) = low_bytes 2 half
bytes_in (lines.LastByte at byte) = low_bytes 1 byte
bytes_in line = []

-- The words of the lines, written out, are the bytes of the code.
abbrev pub WordsAreBytes : Type 0
WordsAreBytes = (at : ℕ) (bytes : List ℕ) → All (λ b. b < 256) bytes → flat_map bytes_in (lines_from at 0 bytes) ≡ bytes

-- An instruction of so many bytes has this text.
abbrev pub HasText : Option (Insn × ℕ) → ℕ → List ℕ → Type 0
HasText reading len text = (insn : Insn) × (reading ≡ Some (insn, len)) × (text ≡ text_of insn)

-- The instruction of a line decodes from its word.
abbrev pub Decodes : ImageLine → Type 0
Decodes (lines.Word at word text) = HasText (decoded (word % 2 ^ 16) (word / 2 ^ 16)) 4 text
Decodes (lines.Half at half text) = HasText (decoded half 0) 2 text
Decodes line = Unit {0}

abbrev pub InstructionsDecode : Type 0
InstructionsDecode = (at : ℕ) (bytes : List ℕ) → All (λ b. b < 256) bytes → All Decodes (lines_from at 0 bytes)

-- The lines of code within 4 GiB keep their forms, so that each is read back as itself.
abbrev pub LinesKeepForms : Type 0
LinesKeepForms = (at : ℕ) (bytes : List ℕ) → All (λ b. b < 256) bytes → at + length bytes ≤ 2 ^ 32 → All IsImageLine (lines_from at 0 bytes)
