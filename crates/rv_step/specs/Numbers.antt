-- What is asked stays within 64 bits, and names registers and widths that there are.
use Rattle.std.specs.Prelude.{ℕ, ℤ, ◌<◌, ◌^◌, List, slice_index, FitsSigned}
use Rattle.std.specs.Int.{w64}
use Rattle.rv_decode.specs.declared.insn.Insn.{Insn}
use Rattle.rv_step.specs.declared.ask.Ask.{Ask}
use Rattle.rv_step.specs.declared.ask.Ask.TheVariants.{Set, Load, Store, Jump, Stop}
use Rattle.rv_decode.specs.Means.{NamesRegisters}
use Rattle.rv_step.specs.Asks.{asks}
use Rattle.rv_step.specs.Exec.{IsFit}
use Rattle.rv_step.specs.Values.{bits_of}

-- each register holds 64 bits
abbrev pub AreNumbers : List ℕ → Type 0
AreNumbers x = (i : ℕ) → slice_index x i < 2 ^ 64

abbrev pub IsNumber : Ask → Type 0
IsNumber (Set rd value) = value < 2 ^ 64
IsNumber (Load rd at width sign) = at < 2 ^ 64
IsNumber (Store at width value) = (at < 2 ^ 64) × (value < 2 ^ 64)
IsNumber (Jump to rd) = to < 2 ^ 64
IsNumber (Stop trap) = Unit

abbrev pub AsksFit : Type 0
AsksFit = (insn : Insn) (len : ℕ) (x : List ℕ) (pc : ℕ) → FitsSigned w64 insn.imm → AreNumbers x → pc < 2 ^ 64 → IsNumber (asks insn len x pc)

-- the bits of a signed number of 64 bits
abbrev pub BitsFit : Type 0
BitsFit = (z : ℤ) → FitsSigned w64 z → bits_of z < 2 ^ 64

-- what an instruction asks for that names registers
abbrev pub AsksAreFit : Type 0
AsksAreFit = (insn : Insn) (len : ℕ) (x : List ℕ) (pc : ℕ) → NamesRegisters insn → IsFit (asks insn len x pc)
