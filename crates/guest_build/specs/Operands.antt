-- Operands, each without the blanks around it.
use Rattle.std.specs.Prelude.{ℕ, ◌+◌, ◌==◌, ◌&&◌, Bool, false, true, not, List, [], ◌∷◌, length, slice_index, codes, Option, Some, None, Result, Ok, Err, nat_le, nat_lt, if◌then◌else◌}
use Rattle.std.specs.List.{list_all}
use Rattle.std.specs.Str.{bytes_eq}
use Rattle.uh_base.specs.Names.{is_name}
use Rattle.rv_decode.specs.Texts.{register_names}
use Rattle.uh_base.specs.Answers.{◌>>=◌}
use Rattle.guest_build.specs.Texts.{trimmed, cut, behind_first, before_last}
use Rattle.guest_build.specs.Numbers.{number_in}
use Rattle.guest_build.specs.declared.fault.AsmKind.{AsmKind}
use Rattle.guest_build.specs.declared.fault.AsmKind.TheVariants as kinds
use Rattle.guest_build.specs.declared.statement.Operand.{Operand}
use Rattle.guest_build.specs.declared.statement.Operand.TheVariants as operands

-- two operands with a comma between, and three
unfoldable pub two : List ℕ → Result (List ℕ × List ℕ) AsmKind
two text = do
  parts ← cut 44 text
  Ok (trimmed parts.0, trimmed parts.1)

unfoldable pub three : List ℕ → Result (List ℕ × List ℕ × List ℕ) AsmKind
three text = do
  parts ← cut 44 text
  others ← two parts.1
  Ok (trimmed parts.0, others.0, others.1)

-- the number of a register's name
abbrev pub register_from : ℕ → List (List ℕ) → List ℕ → Result ℕ AsmKind
register_from n [] text = Err kinds.Operand
register_from n (name ∷ names) text = if bytes_eq name text then Ok n else register_from (n + 1) names text

unfoldable pub register : List ℕ → Result ℕ AsmKind
register text = register_from 0 register_names text

-- a label is a name that doesn't begin with a digit
abbrev pub begins_with_digit : List ℕ → Bool
begins_with_digit text = nat_lt 0 (length text) && (nat_le 48 (slice_index text 0) && nat_le (slice_index text 0) 57)

unfoldable pub is_label : List ℕ → Bool
is_label text = is_name text && not (begins_with_digit text)

unfoldable pub label : List ℕ → Result (List ℕ) AsmKind
label text = if is_label text then Ok text else Err kinds.Operand

-- no operand
unfoldable pub nothing : List ℕ → Result (Unit {0}) AsmKind
nothing text = if length text == 0 then Ok tt else Err kinds.Operand

-- what stands before the first parenthesis, between it and the next closing one, and behind that
unfoldable pub around : List ℕ → Result (List ℕ × List ℕ × List ℕ) AsmKind
around text = do
  parts ← cut 40 text
  others ← cut 41 parts.1
  Ok (trimmed parts.0, trimmed others.0, trimmed others.1)

-- a register in parentheses, alone
unfoldable pub in_parentheses : List ℕ → Result ℕ AsmKind
in_parentheses text = do
  parts ← around text
  _ ← nothing parts.0
  _ ← nothing parts.2
  register parts.1

-- %hi or %lo of a label: the word, and the label in parentheses
abbrev pub hi : List ℕ
hi = codes "%hi"

abbrev pub lo : List ℕ
lo = codes "%lo"

abbrev pub part_of : Option (List ℕ) → Bool
part_of None = false
part_of (Some rest) = true

-- the text begins with a percent sign
unfoldable pub is_part : List ℕ → Bool
is_part text = part_of (behind_first 37 text)

unfoldable pub the_word : List ℕ → List ℕ → Result (Unit {0}) AsmKind
the_word word text = if bytes_eq text word then Ok tt else Err kinds.Operand

unfoldable pub part : List ℕ → List ℕ → Result (List ℕ) AsmKind
part word text = do
  parts ← around text
  _ ← the_word word parts.0
  _ ← nothing parts.2
  label parts.1

-- a number of 12 bits, or %lo(label)
unfoldable pub low : List ℕ → Result Operand AsmKind
low text =
    if is_part text then (do
      name ← part lo text
      Ok (operands.Low name))
    else (do
      n ← number_in text
      Ok (operands.Number n))

-- a field of 20 bits, and for LUI %hi(label) too
unfoldable pub upper : List ℕ → Result Operand AsmKind
upper text = do
  n ← number_in text
  Ok (operands.Upper n)

unfoldable pub high : List ℕ → Result Operand AsmKind
high text =
    if is_part text then (do
      name ← part hi text
      Ok (operands.High name))
    else upper text

-- an offset with its base in parentheses: %lo(label)(register), or a number before the register
unfoldable pub low_based : List ℕ → Result (Operand × ℕ) AsmKind
low_based text = do
  parts ← around text
  _ ← the_word lo parts.0
  name ← label parts.1
  base ← in_parentheses parts.2
  Ok (operands.Low name, base)

unfoldable pub number_based : List ℕ → Result (Operand × ℕ) AsmKind
number_based text = do
  parts ← around text
  n ← number_in parts.0
  base ← register parts.1
  _ ← nothing parts.2
  Ok (operands.Number n, base)

unfoldable pub based : List ℕ → Result (Operand × ℕ) AsmKind
based text = if is_part text then low_based text else number_based text

-- any ASCII but a quote, between quotes
abbrev pub is_plain : ℕ → Bool
is_plain b = nat_lt b 128 && not (b == 34)

abbrev pub plain_text : List ℕ → Result (List ℕ) AsmKind
plain_text text = if list_all is_plain text then Ok text else Err kinds.Operand

abbrev pub before_quote : Option (List ℕ) → Result (List ℕ) AsmKind
before_quote None = Err kinds.Operand
before_quote (Some text) = plain_text text

abbrev pub behind_quote : Option (List ℕ) → Result (List ℕ) AsmKind
behind_quote None = Err kinds.Operand
behind_quote (Some text) = before_quote (before_last 34 text)

unfoldable pub quoted : List ℕ → Result (List ℕ) AsmKind
quoted text = behind_quote (behind_first 34 text)
