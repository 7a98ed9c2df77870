-- Where lines and labels stand. Sums of addresses are modulo 2^64.
use Rattle.std.specs.Prelude.{ℕ, ◌+◌, ◌-◌, ◌*◌, ◌/◌, ◌%◌, ◌^◌, ◌==◌, ◌&&◌, ◌||◌, Bool, false, true, not, List, [], ◌∷◌, length, Option, Some, None, is_some, unwrap_or, if◌then◌else◌}
use Rattle.std.specs.Str.{bytes_eq}
use Rattle.guest_build.specs.Lines.{line_of}
use Rattle.guest_build.specs.Numbers.{is_signed, is_between}
use Rattle.guest_build.specs.declared.number.Number.{Number}
use Rattle.guest_build.specs.declared.statement.Operand.TheVariants as operands
use Rattle.guest_build.specs.declared.statement.Statement.{Statement}
use Rattle.guest_build.specs.declared.statement.Statement.TheVariants as statements
use Rattle.guest_build.specs.declared.places.Section.{Section}
use Rattle.guest_build.specs.declared.places.Section.TheVariants as sections
use Rattle.guest_build.specs.declared.places.Settings.{Settings}
use Rattle.guest_build.specs.declared.places.Extent.{Extent}
use Rattle.guest_build.specs.declared.places.Place.{Place}
use Rattle.guest_build.specs.declared.places.Origins.{Origins}

-- ---- settings

-- multiples of 4,096, applications and drivers, and two alignments (UEFI 2.10, section 2.1.1, for the subsystems)
abbrev pub is_base : Number → Bool
is_base n = not n.negative && n.size % 4096 == 0

abbrev pub is_subsystem : Number → Bool
is_subsystem n = is_between 10 12 n

abbrev pub is_alignment : Number → Bool
is_alignment n = not n.negative && (n.size == 32 || n.size == 4096)

-- the first counts, and one out of its range is as if absent
abbrev pub first : Bool → Number → Option ℕ → Option ℕ
first good n (Some before) = Some before
first good n None = if good then Some n.size else None

unfoldable pub settings_with : Settings → Statement → Settings
settings_with before (statements.Base n) = record before { base = first (is_base n) n before.base }
settings_with before (statements.Subsystem n) = record before { subsystem = first (is_subsystem n) n before.subsystem }
settings_with before (statements.Alignment n) = record before { alignment = first (is_alignment n) n before.alignment }
settings_with before statement = before

-- a setting stands on an earlier line too
unfoldable pub is_set : Settings → Statement → Bool
is_set before (statements.Base n) = is_some before.base
is_set before (statements.Subsystem n) = is_some before.subsystem
is_set before (statements.Alignment n) = is_some before.alignment
is_set before statement = false

abbrev pub no_settings : Settings
no_settings = record { base = None; subsystem = None; alignment = None }

abbrev pub base_in : Settings → ℕ
base_in settings = unwrap_or settings.base 0

abbrev pub subsystem_in : Settings → ℕ
subsystem_in settings = unwrap_or settings.subsystem 10

abbrev pub chosen : Option ℕ → ℕ
chosen None = 4096
chosen (Some n) = if n == 32 then 32 else 4096

abbrev pub alignment_in : Settings → ℕ
alignment_in settings = chosen settings.alignment

-- ---- how much lines fill

-- at most 1 MiB of zeros
abbrev pub most : ℕ
most = 2 ^ 20

abbrev pub zeros_in : Number → ℕ
zeros_in n = if is_between 0 most n then n.size else 0

-- how many bytes a statement has
unfoldable pub size_of : Statement → ℕ
size_of (statements.Number width n) = width
size_of (statements.Address target) = 8
size_of (statements.Zero n) = zeros_in n
size_of (statements.Ascii16 text) = (2 * length text + 2) % 2 ^ 64
size_of (statements.Guid id) = 16
size_of (statements.Instruction insn operand) = 4
size_of (statements.LoadImmediate rd n) = if is_signed 12 n then 4 else 8
size_of (statements.LoadAddress rd target) = 8
size_of statement = 0

-- a label's address stands in the image, so that it has a base relocation
unfoldable pub is_moved : Statement → Bool
is_moved (statements.Address target) = true
is_moved (statements.Instruction insn (operands.High target)) = true
is_moved statement = false

unfoldable pub section_behind : Section → Statement → Section
section_behind section statements.Text = sections.Text
section_behind section statements.Data = sections.Data
section_behind section statement = section

abbrev pub sum : ℕ → ℕ → ℕ
sum a b = (a + b) % 2 ^ 64

-- how much there is in a section
abbrev pub filled : Extent → Section → ℕ
filled extent sections.Text = extent.text_len
filled extent sections.Data = extent.data_len

-- so many bytes more, where they stand in that section
abbrev pub more_text : Section → ℕ → ℕ → ℕ
more_text sections.Text size n = sum n size
more_text sections.Data size n = n

abbrev pub more_data : Section → ℕ → ℕ → ℕ
more_data sections.Text size n = n
more_data sections.Data size n = sum n size

-- one line more
unfoldable pub grown : Extent → Statement → Extent
grown before statement = record {
  section = section_behind before.section statement;
  text_len = more_text before.section (size_of statement) before.text_len;
  data_len = more_data before.section (size_of statement) before.data_len;
  moved = before.moved || is_moved statement;
  settings = settings_with before.settings statement;
}

-- nothing yet; what comes first stands in .text
abbrev pub nothing_yet : Extent
nothing_yet = record { section = sections.Text; text_len = 0; data_len = 0; moved = false; settings = no_settings }

-- all lines
unfoldable pub extent_of : Extent → List (List ℕ) → Extent
extent_of before [] = before
extent_of before (line ∷ lines) = extent_of (grown before (line_of line).statement) lines

-- ---- labels

-- A label stands at the end of what its section holds by then, before its own line.
abbrev pub place_in : ℕ → Extent → Place
place_in n before = record { line = n; section = before.section; offset = filled before before.section }

-- of two lines with a label the first counts
abbrev pub labelled : Place → Option (List ℕ) → List ℕ → Option Place → Option Place
labelled place None name others = others
labelled place (Some label) name others = if bytes_eq label name then Some place else others

-- where a label stands, among lines that are numbered from n on
unfoldable pub found : ℕ → Extent → List (List ℕ) → List ℕ → Option Place
found n before [] name = None
found n before (line ∷ lines) name =
    labelled (place_in n before) (line_of line).label name (found (n + 1) (grown before (line_of line).statement) lines name)

-- ---- where the sections begin (PE/COFF, "Section Table")

-- the next multiple
abbrev pub round_up : (unit n : ℕ) → ℕ
round_up unit n = (n + (unit - 1)) % 2 ^ 64 / unit * unit

-- 512, or 32 where sections are aligned to 32
abbrev pub file_alignment : ℕ → ℕ
file_alignment alignment = if alignment == 32 then 32 else 512

abbrev pub counted : Bool → ℕ
counted present = if present then 1 else 0

-- .text is always there, .data and .reloc where they aren't empty
abbrev pub section_count : ℕ → Bool → ℕ
section_count data_len moved = 1 + counted (not (data_len == 0)) + counted moved

-- section headers begin at 0x148 and have 40 bytes each
unfoldable pub headers_size : ℕ → ℕ → Bool → ℕ
headers_size alignment data_len moved = round_up (file_alignment alignment) (0x148 + 40 * section_count data_len moved)

unfoldable pub text_at : ℕ → ℕ → Bool → ℕ
text_at alignment data_len moved = round_up alignment (headers_size alignment data_len moved)

unfoldable pub data_at : ℕ → ℕ → ℕ → Bool → ℕ
data_at alignment text_len data_len moved = round_up alignment (sum (text_at alignment data_len moved) text_len)

unfoldable pub origins_of : Extent → Origins
origins_of whole = record {
  base = base_in whole.settings;
  text_from = text_at (alignment_in whole.settings) whole.data_len whole.moved;
  data_from = data_at (alignment_in whole.settings) whole.text_len whole.data_len whole.moved;
}

abbrev pub origin : Origins → Section → ℕ
origin origins sections.Text = origins.text_from
origin origins sections.Data = origins.data_from

-- the offset in the image of a place in a section
abbrev pub at_origin : Origins → Section → ℕ → ℕ
at_origin origins section offset = sum (origin origins section) offset
