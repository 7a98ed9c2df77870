-- What an instruction asks for, of its registers alone: one line a name. (RISC-V unprivileged manual, version 20191213;
-- the sections stand beside each group)
use Rattle.std.specs.Prelude.{ℕ, pos, ◌+◌, ◌-◌, ◌*◌, ◌/◌, ◌%◌, ◌^◌, ◌==◌, not, bit_and, bit_or, bit_xor, int_lt, nat_lt, Bool, true, false, List, if◌then◌else◌, slice_index}
use Rattle.rv_decode.specs.declared.insn.Insn.{Insn}
use Rattle.rv_decode.specs.declared.insn.Op.{Op}
use Rattle.rv_decode.specs.declared.insn.Op.TheVariants as ops
use Rattle.rv_step.specs.declared.ends.Trap.TheVariants.{Ebreak, Ecall}
use Rattle.rv_step.specs.declared.ask.Ask.{Ask}
use Rattle.rv_step.specs.declared.ask.Ask.TheVariants.{Set, Load, Store, Jump, Stop}
use Rattle.uh_base.specs.Bytes.{plus}
use Rattle.rv_step.specs.Values.{signed, signed32, bits_of, extended, of_bool, minus, shifted, high, quotient, remainder, quotient_signed, remainder_signed}

-- bit 0 cleared
abbrev pub even : ℕ → ℕ
even n = n - n % 2

-- to the target, or behind this instruction
abbrev pub branch : Bool → (next target : ℕ) → Ask
branch taken next target = Jump (if taken then target else next) 0

-- what a conditional branch compares two registers for; other instructions compare none (2.5)
abbrev pub compares : Op → (a b : ℕ) → Bool
compares ops.Beq a b = a == b
compares ops.Bne a b = not (a == b)
compares ops.Blt a b = int_lt (signed a) (signed b)
compares ops.Bge a b = not (int_lt (signed a) (signed b))
compares ops.Bltu a b = nat_lt a b
compares ops.Bgeu a b = not (nat_lt a b)
compares op a b = false

-- An instruction whose destination is rd, whose source registers rs1 and rs2 hold a and b, whose immediate has the 64
-- bits i, which is at pc, and behind which is the address `next`.
abbrev pub asks_as : Op → (rd a b i pc next : ℕ) → Ask
-- Upper immediates: the immediate, and the pc and the immediate (2.4)
asks_as ops.Lui rd a b i pc next = Set rd i
asks_as ops.Auipc rd a b i pc next = Set rd (plus pc i)
-- Jumps: the address behind goes into rd; the target of JALR has bit 0 cleared (2.5)
asks_as ops.Jal rd a b i pc next = Jump (plus pc i) rd
asks_as ops.Jalr rd a b i pc next = Jump (even (plus a i)) rd
-- Conditional branches (2.5)
asks_as ops.Beq rd a b i pc next = branch (compares ops.Beq a b) next (plus pc i)
asks_as ops.Bne rd a b i pc next = branch (compares ops.Bne a b) next (plus pc i)
asks_as ops.Blt rd a b i pc next = branch (compares ops.Blt a b) next (plus pc i)
asks_as ops.Bge rd a b i pc next = branch (compares ops.Bge a b) next (plus pc i)
asks_as ops.Bltu rd a b i pc next = branch (compares ops.Bltu a b) next (plus pc i)
asks_as ops.Bgeu rd a b i pc next = branch (compares ops.Bgeu a b) next (plus pc i)
-- Loads: LB, LH and LW are sign-extended, LBU, LHU and LWU are not (2.6 and 5.3)
asks_as ops.Lb rd a b i pc next = Load rd (plus a i) 1 true
asks_as ops.Lh rd a b i pc next = Load rd (plus a i) 2 true
asks_as ops.Lw rd a b i pc next = Load rd (plus a i) 4 true
asks_as ops.Ld rd a b i pc next = Load rd (plus a i) 8 false
asks_as ops.Lbu rd a b i pc next = Load rd (plus a i) 1 false
asks_as ops.Lhu rd a b i pc next = Load rd (plus a i) 2 false
asks_as ops.Lwu rd a b i pc next = Load rd (plus a i) 4 false
-- Stores of the low bytes of rs2 (2.6 and 5.3)
asks_as ops.Sb rd a b i pc next = Store (plus a i) 1 b
asks_as ops.Sh rd a b i pc next = Store (plus a i) 2 b
asks_as ops.Sw rd a b i pc next = Store (plus a i) 4 b
asks_as ops.Sd rd a b i pc next = Store (plus a i) 8 b
-- Register and immediate; a shift has the low 6 bits of its amount (2.4 and 5.2)
asks_as ops.Addi rd a b i pc next = Set rd (plus a i)
asks_as ops.Slti rd a b i pc next = Set rd (of_bool (int_lt (signed a) (signed i)))
asks_as ops.Sltiu rd a b i pc next = Set rd (of_bool (nat_lt a i))
asks_as ops.Xori rd a b i pc next = Set rd (bit_xor a i)
asks_as ops.Ori rd a b i pc next = Set rd (bit_or a i)
asks_as ops.Andi rd a b i pc next = Set rd (bit_and a i)
asks_as ops.Slli rd a b i pc next = Set rd (a * 2 ^ (i % 64) % 2 ^ 64)
asks_as ops.Srli rd a b i pc next = Set rd (a / 2 ^ (i % 64))
asks_as ops.Srai rd a b i pc next = Set rd (shifted (signed a) (i % 64))
-- The same on the low 32 bits, sign-extended; a shift has the low 5 bits of its amount (5.2)
asks_as ops.Addiw rd a b i pc next = Set rd (extended (a + i))
asks_as ops.Slliw rd a b i pc next = Set rd (extended (a * 2 ^ (i % 32)))
asks_as ops.Srliw rd a b i pc next = Set rd (extended (a % 2 ^ 32 / 2 ^ (i % 32)))
asks_as ops.Sraiw rd a b i pc next = Set rd (shifted (signed32 a) (i % 32))
-- Register and register (2.4 and 5.2)
asks_as ops.Add rd a b i pc next = Set rd (plus a b)
asks_as ops.Sub rd a b i pc next = Set rd (minus a b)
asks_as ops.Sll rd a b i pc next = Set rd (a * 2 ^ (b % 64) % 2 ^ 64)
asks_as ops.Slt rd a b i pc next = Set rd (of_bool (int_lt (signed a) (signed b)))
asks_as ops.Sltu rd a b i pc next = Set rd (of_bool (nat_lt a b))
asks_as ops.Xor rd a b i pc next = Set rd (bit_xor a b)
asks_as ops.Srl rd a b i pc next = Set rd (a / 2 ^ (b % 64))
asks_as ops.Sra rd a b i pc next = Set rd (shifted (signed a) (b % 64))
asks_as ops.Or rd a b i pc next = Set rd (bit_or a b)
asks_as ops.And rd a b i pc next = Set rd (bit_and a b)
-- The same on the low 32 bits, sign-extended (5.2)
asks_as ops.Addw rd a b i pc next = Set rd (extended (a + b))
asks_as ops.Subw rd a b i pc next = Set rd (extended (a + (2 ^ 64 - b)))
asks_as ops.Sllw rd a b i pc next = Set rd (extended (a * 2 ^ (b % 32)))
asks_as ops.Srlw rd a b i pc next = Set rd (extended (a % 2 ^ 32 / 2 ^ (b % 32)))
asks_as ops.Sraw rd a b i pc next = Set rd (shifted (signed32 a) (b % 32))
-- Products: the low 64 bits, and the high ones of signed, of signed and unsigned, and of unsigned numbers (7.1)
asks_as ops.Mul rd a b i pc next = Set rd (a * b % 2 ^ 64)
asks_as ops.Mulh rd a b i pc next = Set rd (high (signed a) (signed b))
asks_as ops.Mulhsu rd a b i pc next = Set rd (high (signed a) (pos b))
asks_as ops.Mulhu rd a b i pc next = Set rd (a * b / 2 ^ 64)
asks_as ops.Mulw rd a b i pc next = Set rd (extended (a * b))
-- Quotients and remainders (7.2)
asks_as ops.Div rd a b i pc next = Set rd (quotient_signed a b)
asks_as ops.Divu rd a b i pc next = Set rd (quotient a b)
asks_as ops.Rem rd a b i pc next = Set rd (remainder_signed a b)
asks_as ops.Remu rd a b i pc next = Set rd (remainder a b)
asks_as ops.Divw rd a b i pc next = Set rd (extended (quotient_signed (extended a) (extended b)))
asks_as ops.Divuw rd a b i pc next = Set rd (extended (quotient (a % 2 ^ 32) (b % 2 ^ 32)))
asks_as ops.Remw rd a b i pc next = Set rd (extended (remainder_signed (extended a) (extended b)))
asks_as ops.Remuw rd a b i pc next = Set rd (extended (remainder (a % 2 ^ 32) (b % 2 ^ 32)))
-- FENCE does nothing, since one hart alone sees this memory (2.7); ECALL and EBREAK are traps (2.8)
asks_as ops.Fence rd a b i pc next = Set 0 0
asks_as ops.Ecall rd a b i pc next = Stop Ecall
asks_as ops.Ebreak rd a b i pc next = Stop Ebreak

-- what an instruction of so many bytes at pc asks for, with these registers
unfoldable pub asks : Insn → ℕ → List ℕ → ℕ → Ask
asks insn len x pc =
    asks_as insn.op insn.rd (slice_index x insn.rs1) (slice_index x insn.rs2) (bits_of insn.imm) pc (plus pc len)
