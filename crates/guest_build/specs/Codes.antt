-- The bytes of a statement.
use Rattle.std.specs.Prelude.{ℕ, ℤ, ◌+◌, ◌-◌, ◌*◌, ◌/◌, ◌%◌, ◌^◌, ◌&&◌, Bool, List, [], ◌++◌, replicate, Option, Some, None, Result, Ok, Err, nat_lt, nat_le, if◌then◌else◌}
use Rattle.std.specs.Int.{cast_signed, w64}
use Rattle.std.specs.List.{flat_map}
use Rattle.uh_base.specs.Guid.{bytes_of}
use Rattle.uh_base.specs.LittleEndian.{low_bytes}
use Rattle.rv_decode.specs.Fields.{signed}
use Rattle.rv_decode.specs.Fits.{fits}
use Rattle.rv_decode.specs.Encoded.{encoded}
use Rattle.rv_decode.specs.declared.insn.Insn.{Insn}
use Rattle.rv_decode.specs.declared.insn.Op.{Op}
use Rattle.rv_decode.specs.declared.insn.Op.TheVariants as ops
use Rattle.uh_base.specs.Answers.{◌>>=◌}
use Rattle.guest_build.specs.Numbers.{value_of, wrapped, is_between, is_signed, is_data}
use Rattle.guest_build.specs.Statements.{insn}
use Rattle.guest_build.specs.Places.{most, sum, at_origin, is_base, is_subsystem, is_alignment}
use Rattle.guest_build.specs.declared.fault.AsmKind.{AsmKind}
use Rattle.guest_build.specs.declared.fault.AsmKind.TheVariants as kinds
use Rattle.guest_build.specs.declared.number.Number.{Number}
use Rattle.guest_build.specs.declared.statement.Operand.{Operand}
use Rattle.guest_build.specs.declared.statement.Operand.TheVariants as operands
use Rattle.guest_build.specs.declared.statement.Statement.{Statement}
use Rattle.guest_build.specs.declared.statement.Statement.TheVariants as statements
use Rattle.guest_build.specs.declared.places.Place.{Place}
use Rattle.guest_build.specs.declared.places.Origins.{Origins}

-- where a label stands in the image
abbrev pub offset_of : Origins → Option Place → Result ℕ AsmKind
offset_of origins None = Err kinds.Label
offset_of origins (Some place) = Ok (at_origin origins place.section place.offset)

-- ---- immediates

-- what a field of 20 bits stands for, and a number's low 12 bits with their sign
abbrev pub upper_value : ℕ → ℤ
upper_value field = signed 32 (field * 4096)

abbrev pub low_value : ℕ → ℤ
low_value n = signed 12 (n % 4096)

-- the upper 20 bits that go with those low 12
abbrev pub upper_field : ℕ → ℕ
upper_field n = (n + 0x800) / 4096 % 2 ^ 20

abbrev pub if_fits : {A : Type 0} → Bool → A → Result A AsmKind
if_fits good x = if good then Ok x else Err kinds.Range

-- from one place to another, as a signed number of 64 bits
abbrev pub wrapped_distance : (from to : ℕ) → ℕ
wrapped_distance from to = (to + (2 ^ 64 - from)) % 2 ^ 64

-- A base is a multiple of 4,096, so that the low 12 bits of an address are those of the offset.
abbrev pub high_field : Origins → ℕ → ℕ
high_field origins offset = origins.base / 4096 + sum offset 0x800 / 4096

unfoldable pub imm_of : Origins → (List ℕ → Option Place) → ℕ → Operand → Result ℤ AsmKind
imm_of origins find here (operands.Number n) = if_fits (nat_lt n.size (2 ^ 32)) (value_of n)
imm_of origins find here (operands.Upper n) = if_fits (is_between 0 (2 ^ 20 - 1) n) (upper_value n.size)
imm_of origins find here (operands.Distance target) = do
  there ← offset_of origins (find target)
  Ok (cast_signed w64 (wrapped_distance here there))
imm_of origins find here (operands.High target) = do
  there ← offset_of origins (find target)
  if_fits (nat_lt (high_field origins there) (2 ^ 20)) (upper_value (high_field origins there))
imm_of origins find here (operands.Low target) = do
  there ← offset_of origins (find target)
  Ok (low_value there)

-- ---- instructions

-- an instruction's word, where its immediate fits
unfoldable pub word_bytes : Insn → Result (List ℕ) AsmKind
word_bytes i = if_fits (fits i) (low_bytes 4 (encoded i))

abbrev pub with_imm : Insn → ℤ → Insn
with_imm i imm = record { op = i.op; rd = i.rd; rs1 = i.rs1; rs2 = i.rs2; imm = imm }

-- two instructions, of which the first gives the upper bits and the second adds the low 12
abbrev pub upper_insn : Op → ℕ → ℕ → Insn
upper_insn op rd n = with_imm (insn op rd 0 0) (upper_value (upper_field n))

abbrev pub lower_insn : Op → ℕ → ℕ → Insn
lower_insn op rd n = with_imm (insn op rd rd 0) (low_value n)

unfoldable pub pair_bytes : Op → Op → ℕ → ℕ → Result (List ℕ) AsmKind
pair_bytes first second rd n = do
  one ← word_bytes (upper_insn first rd n)
  other ← word_bytes (lower_insn second rd n)
  Ok (one ++ other)

unfoldable pub li_bytes : ℕ → Number → Result (List ℕ) AsmKind
li_bytes rd n =
    if is_signed 12 n then word_bytes (with_imm (insn ops.Addi rd 0 0) (value_of n))
    else (if is_signed 32 n then pair_bytes ops.Lui ops.Addiw rd (wrapped n % 2 ^ 32) else Err kinds.Range)

-- how far AUIPC and ADDI reach: from -2^31 - 2048 to 2^31 - 2049
abbrev pub is_near : ℕ → Bool
is_near distance = nat_lt (sum distance (2 ^ 31 + 2048)) (2 ^ 32)

unfoldable pub la_bytes : ℕ → (from to : ℕ) → Result (List ℕ) AsmKind
la_bytes rd from to =
    let distance = wrapped_distance from to in
    if is_near distance then pair_bytes ops.Auipc ops.Addi rd (distance % 2 ^ 32) else Err kinds.Range

abbrev pub address_loaded : Origins → ℕ → ℕ → Option Place → Result (List ℕ) AsmKind
address_loaded origins rd here place = do
  there ← offset_of origins place
  la_bytes rd here there

abbrev pub instruction_bytes : Origins → (List ℕ → Option Place) → ℕ → Insn → Operand → Result (List ℕ) AsmKind
instruction_bytes origins find here i operand = do
  imm ← imm_of origins find here operand
  word_bytes (with_imm i imm)

-- ---- all statements

abbrev pub address_bytes : Origins → Option Place → Result (List ℕ) AsmKind
address_bytes origins place = do
  there ← offset_of origins place
  Ok (low_bytes 8 (sum origins.base there))

-- 1 to 8 bytes
abbrev pub is_width : ℕ → Bool
is_width width = nat_le 1 width && nat_le width 8

unfoldable pub number_bytes : ℕ → Number → Result (List ℕ) AsmKind
number_bytes width n = if_fits (is_width width && is_data (8 * width) n) (low_bytes width (wrapped n))

unfoldable pub zero_bytes : Number → Result (List ℕ) AsmKind
zero_bytes n = if_fits (is_between 0 most n) (replicate n.size 0)

abbrev pub units : List ℕ → List ℕ
units text = flat_map (λ b. low_bytes 2 b) text ++ low_bytes 2 0

-- the bytes of a statement at an offset in the image
unfoldable pub bytes_at : Origins → (List ℕ → Option Place) → ℕ → Statement → Result (List ℕ) AsmKind
bytes_at origins find here statements.Empty = Ok []
bytes_at origins find here (statements.Fault kind) = Err kind
bytes_at origins find here statements.Text = Ok []
bytes_at origins find here statements.Data = Ok []
bytes_at origins find here (statements.Base n) = if_fits (is_base n) []
bytes_at origins find here (statements.Subsystem n) = if_fits (is_subsystem n) []
bytes_at origins find here (statements.Alignment n) = if_fits (is_alignment n) []
bytes_at origins find here (statements.Number width n) = number_bytes width n
bytes_at origins find here (statements.Address target) = address_bytes origins (find target)
bytes_at origins find here (statements.Zero n) = zero_bytes n
bytes_at origins find here (statements.Ascii16 text) = Ok (units text)
bytes_at origins find here (statements.Guid id) = Ok (bytes_of id)
bytes_at origins find here (statements.Instruction i operand) = instruction_bytes origins find here i operand
bytes_at origins find here (statements.LoadImmediate rd n) = li_bytes rd n
bytes_at origins find here (statements.LoadAddress rd target) = address_loaded origins rd here (find target)
