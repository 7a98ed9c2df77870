-- An instruction of a text is what its bytes decode to.
use Rattle.std.specs.Prelude.{◌≡◌, ℕ, ℤ, List, take, drop, Option, Some, Ok}
use Rattle.uh_base.specs.LittleEndian.{little_endian}
use Rattle.rv_decode.specs.Means.{decoded}
use Rattle.rv_decode.specs.declared.insn.Insn.{Insn}
use Rattle.guest_build.specs.Codes.{imm_of, with_imm, bytes_at}
use Rattle.guest_build.specs.declared.places.Origins.{Origins}
use Rattle.guest_build.specs.declared.places.Place.{Place}
use Rattle.guest_build.specs.declared.statement.Operand.{Operand}
use Rattle.guest_build.specs.declared.statement.Statement.TheVariants as statements

-- four bytes mean an instruction, by their two halves
abbrev pub Decodes : List ℕ → Insn → Type 0
Decodes bytes insn = decoded (little_endian (take 2 bytes)) (little_endian (drop 2 bytes)) ≡ Some (insn, 4)

-- the bytes of an instruction's line mean the instruction with the immediate that its operand makes
abbrev pub InstructionsDecode : Type 0
InstructionsDecode = (origins : Origins) (find : List ℕ → Option Place) (here : ℕ) (insn : Insn) (operand : Operand) (bytes : List ℕ)
    → bytes_at origins find here (statements.Instruction insn operand) ≡ Ok bytes
    → (imm : ℤ) × (imm_of origins find here operand ≡ Ok imm) × Decodes bytes (with_imm insn imm)
