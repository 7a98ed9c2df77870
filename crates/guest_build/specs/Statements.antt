-- What a word and its operands say.
use Rattle.std.specs.Prelude.{ℕ, pos, List, Option, Some, None, Result, Ok, Err}
use Rattle.uh_base.specs.Guid.{read_of}
use Rattle.uh_base.specs.declared.guid.Guid.{Guid as AnyGuid}
use Rattle.rv_decode.specs.declared.insn.Insn.{Insn}
use Rattle.rv_decode.specs.declared.insn.Op.{Op}
use Rattle.rv_decode.specs.declared.insn.Op.TheVariants as ops
use Rattle.uh_base.specs.Answers.{◌>>=◌}
use Rattle.guest_build.specs.Numbers.{number_in, zero_number}
use Rattle.guest_build.specs.Operands.{two, three, register, label, nothing, low, upper, high, based, quoted}
use Rattle.guest_build.specs.declared.fault.AsmKind.{AsmKind}
use Rattle.guest_build.specs.declared.fault.AsmKind.TheVariants as kinds
use Rattle.guest_build.specs.declared.number.Number.{Number}
use Rattle.guest_build.specs.declared.statement.Operand.TheVariants as operands
use Rattle.guest_build.specs.declared.statement.Statement.{Statement}
use Rattle.guest_build.specs.declared.statement.Statement.TheVariants as statements
use Rattle.guest_build.specs.declared.word.Shape.{Shape}
use Rattle.guest_build.specs.declared.word.Shape.TheVariants as shapes
use Rattle.guest_build.specs.declared.word.Word.{Word}
use Rattle.guest_build.specs.declared.word.Word.TheVariants as words

-- ---- instructions (RISC-V unprivileged manual, version 20191213, 2.2 and 2.3)

abbrev pub insn : Op → (rd rs1 rs2 : ℕ) → Insn
insn op rd rs1 rs2 = record { op = op; rd = rd; rs1 = rs1; rs2 = rs2; imm = pos 0 }

-- an instruction of registers alone
abbrev pub plain : Op → (rd rs1 rs2 : ℕ) → Statement
plain op rd rs1 rs2 = statements.Instruction (insn op rd rs1 rs2) (operands.Number zero_number)

unfoldable pub registers : Op → List ℕ → Result Statement AsmKind
registers op text = do
  parts ← three text
  rd ← register parts.0
  rs1 ← register parts.1
  rs2 ← register parts.2
  Ok (plain op rd rs1 rs2)

unfoldable pub immediate : Op → List ℕ → Result Statement AsmKind
immediate op text = do
  parts ← three text
  rd ← register parts.0
  rs1 ← register parts.1
  operand ← low parts.2
  Ok (statements.Instruction (insn op rd rs1 0) operand)

unfoldable pub shift : Op → List ℕ → Result Statement AsmKind
shift op text = do
  parts ← three text
  rd ← register parts.0
  rs1 ← register parts.1
  n ← number_in parts.2
  Ok (statements.Instruction (insn op rd rs1 0) (operands.Number n))

unfoldable pub offset : Op → List ℕ → Result Statement AsmKind
offset op text = do
  parts ← two text
  rd ← register parts.0
  place ← based parts.1
  Ok (statements.Instruction (insn op rd place.1 0) place.0)

unfoldable pub store : Op → List ℕ → Result Statement AsmKind
store op text = do
  parts ← two text
  rs2 ← register parts.0
  place ← based parts.1
  Ok (statements.Instruction (insn op 0 place.1 rs2) place.0)

unfoldable pub branch : Op → List ℕ → Result Statement AsmKind
branch op text = do
  parts ← three text
  rs1 ← register parts.0
  rs2 ← register parts.1
  target ← label parts.2
  Ok (statements.Instruction (insn op 0 rs1 rs2) (operands.Distance target))

unfoldable pub upper_of : Op → List ℕ → Result Statement AsmKind
upper_of op text = do
  parts ← two text
  rd ← register parts.0
  operand ← upper parts.1
  Ok (statements.Instruction (insn op rd 0 0) operand)

unfoldable pub lui : Op → List ℕ → Result Statement AsmKind
lui op text = do
  parts ← two text
  rd ← register parts.0
  operand ← high parts.1
  Ok (statements.Instruction (insn op rd 0 0) operand)

unfoldable pub jump : Op → List ℕ → Result Statement AsmKind
jump op text = do
  parts ← two text
  rd ← register parts.0
  target ← label parts.1
  Ok (statements.Instruction (insn op rd 0 0) (operands.Distance target))

unfoldable pub bare : Op → List ℕ → Result Statement AsmKind
bare op text = do
  _ ← nothing text
  Ok (plain op 0 0 0)

unfoldable pub instruction : Op → Shape → List ℕ → Result Statement AsmKind
instruction op shapes.Registers text = registers op text
instruction op shapes.Immediate text = immediate op text
instruction op shapes.Shift text = shift op text
instruction op shapes.Offset text = offset op text
instruction op shapes.Store text = store op text
instruction op shapes.Branch text = branch op text
instruction op shapes.Upper text = upper_of op text
instruction op shapes.Lui text = lui op text
instruction op shapes.Jump text = jump op text
instruction op shapes.Bare text = bare op text

-- ---- pseudoinstructions (tables 25.2 and 25.3)

unfoldable pub li : List ℕ → Result Statement AsmKind
li text = do
  parts ← two text
  rd ← register parts.0
  n ← number_in parts.1
  Ok (statements.LoadImmediate rd n)

unfoldable pub la : List ℕ → Result Statement AsmKind
la text = do
  parts ← two text
  rd ← register parts.0
  target ← label parts.1
  Ok (statements.LoadAddress rd target)

unfoldable pub mv : List ℕ → Result Statement AsmKind
mv text = do
  parts ← two text
  rd ← register parts.0
  rs1 ← register parts.1
  Ok (plain ops.Addi rd rs1 0)

unfoldable pub nop : List ℕ → Result Statement AsmKind
nop text = do
  _ ← nothing text
  Ok (plain ops.Addi 0 0 0)

unfoldable pub ret : List ℕ → Result Statement AsmKind
ret text = do
  _ ← nothing text
  Ok (plain ops.Jalr 0 1 0)

-- a jump to a label, which keeps where it came from in a register
unfoldable pub jump_by : ℕ → List ℕ → Result Statement AsmKind
jump_by rd text = do
  target ← label text
  Ok (statements.Instruction (insn ops.Jal rd 0 0) (operands.Distance target))

unfoldable pub jr : List ℕ → Result Statement AsmKind
jr text = do
  rs1 ← register text
  Ok (plain ops.Jalr 0 rs1 0)

unfoldable pub zero_branch : Op → List ℕ → Result Statement AsmKind
zero_branch op text = do
  parts ← two text
  rs1 ← register parts.0
  target ← label parts.1
  Ok (statements.Instruction (insn op 0 rs1 0) (operands.Distance target))

-- ---- directives

-- a directive that has no operand
abbrev pub alone : Statement → List ℕ → Result Statement AsmKind
alone statement text = nothing text >>= λ _. Ok statement

-- a directive with a number
abbrev pub of_number : Word → Number → Result Statement AsmKind
of_number words.Base n = Ok (statements.Base n)
of_number words.Subsystem n = Ok (statements.Subsystem n)
of_number words.Alignment n = Ok (statements.Alignment n)
of_number words.Zero n = Ok (statements.Zero n)
of_number (words.Number width) n = Ok (statements.Number width n)
of_number _ n = Err kinds.Operand

unfoldable pub numbered : Word → List ℕ → Result Statement AsmKind
numbered word text = do
  n ← number_in text
  of_number word n

-- a number, or a label
abbrev pub number_or_label : Result Number AsmKind → List ℕ → Result Statement AsmKind
number_or_label (Ok n) text = Ok (statements.Number 8 n)
number_or_label (Err kind) text = label text >>= λ target. Ok (statements.Address target)

unfoldable pub dword : List ℕ → Result Statement AsmKind
dword text = number_or_label (number_in text) text

unfoldable pub ascii16 : List ℕ → Result Statement AsmKind
ascii16 text = do
  inside ← quoted text
  Ok (statements.Ascii16 inside)

abbrev pub guid_of : Option AnyGuid → Result Statement AsmKind
guid_of None = Err kinds.Operand
guid_of (Some id) = Ok (statements.Guid id)

unfoldable pub guid : List ℕ → Result Statement AsmKind
guid text = guid_of (read_of text)

-- ---- all words

unfoldable pub saying : Word → List ℕ → Result Statement AsmKind
saying (words.Instruction op shape) text = instruction op shape text
saying words.Li text = li text
saying words.La text = la text
saying words.Mv text = mv text
saying words.Nop text = nop text
saying words.Ret text = ret text
saying words.J text = jump_by 0 text
saying words.Jr text = jr text
saying words.Beqz text = zero_branch ops.Beq text
saying words.Bnez text = zero_branch ops.Bne text
saying words.Call text = jump_by 1 text
saying words.Text text = alone statements.Text text
saying words.Data text = alone statements.Data text
saying words.Dword text = dword text
saying words.Ascii16 text = ascii16 text
saying words.Guid text = guid text
saying other text = numbered other text
