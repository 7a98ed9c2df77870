-- The rows of the instruction table: which bits a word of each instruction has. The names stand in the order of `Op`,
-- by major opcode, and 16-bit rows behind them by quadrant. (RISC-V unprivileged manual, version 20191213, chapter 24,
-- tables 24.1 and 24.2; 16.8, tables 16.5 to 16.7)
use Rattle.std.specs.Prelude.{ℕ, ◌+◌, ◌-◌, ◌*◌, ◌^◌, ◌==◌, bit_and, Bool, true, not, ◌&&◌, List, [], ◌∷◌}
use Rattle.rv_decode.specs.Formats.{reads_of}
use Rattle.rv_decode.specs.declared.insn.Insn.{Insn}
use Rattle.rv_decode.specs.declared.insn.Op.{Op}
use Rattle.rv_decode.specs.declared.insn.Op.TheVariants.{Lui, Auipc, Jal, Jalr, Beq, Bne, Blt, Bge, Bltu, Bgeu, Lb, Lh, Lw, Ld, Lbu, Lhu, Lwu, Sb, Sh, Sw, Sd, Addi, Slli, Slti, Sltiu, Xori, Srli, Srai, Ori, Andi, Addiw, Slliw, Srliw, Sraiw, Add, Sub, Mul, Sll, Mulh, Slt, Mulhsu, Sltu, Mulhu, Xor, Div, Srl, Sra, Divu, Or, Rem, And, Remu, Addw, Subw, Mulw, Sllw, Divw, Srlw, Sraw, Divuw, Remw, Remuw, Fence, Ecall, Ebreak}
use Rattle.rv_decode.specs.declared.table.Format.{Format}
use Rattle.rv_decode.specs.declared.table.Format.TheVariants as formats

-- The bits of the mask have this value.
pub record Pattern : Type 0 where
  pub mask : ℕ
  pub value : ℕ

-- A row holds of a word that has its pattern and none of the excluded ones.
pub record Row : Type 0 where
  pub op : Op
  pub is : Pattern
  pub but : List Pattern
  pub length : ℕ
  pub format : Format

abbrev pub holds : Pattern → ℕ → Bool
holds pattern word = bit_and word pattern.mask == pattern.value

abbrev pub holds_none : List Pattern → ℕ → Bool
holds_none [] word = true
holds_none (pattern ∷ patterns) word = not (holds pattern word) && holds_none patterns word

abbrev pub holds_row : Row → ℕ → Bool
holds_row row word = holds row.is word && holds_none row.but word

-- the instruction that a row reads
abbrev pub reads : Row → ℕ → Insn
reads row word = reads_of row.format row.op word

-- The two halves as one word. Rows of 16 bits have patterns in the first half alone.
abbrev pub word_of : ℕ → ℕ → ℕ
word_of half0 half1 = half0 + 2 ^ 16 * half1

-- so many bits from bit `low` on have this value
abbrev pub at : (low count value : ℕ) → Pattern
at low count value = record { mask = (2 ^ count - 1) * 2 ^ low; value = value * 2 ^ low }

-- all of these fields have their values
abbrev pub all : List Pattern → Pattern
all [] = record { mask = 0; value = 0 }
all (pattern ∷ patterns) = record { mask = pattern.mask + (all patterns).mask; value = pattern.value + (all patterns).value }

abbrev pub opcode : ℕ → Pattern
opcode n = at 0 7 n

abbrev pub funct3 : ℕ → Pattern
funct3 n = at 12 3 n

abbrev pub funct7 : ℕ → Pattern
funct7 n = at 25 7 n

-- funct7 without its lowest bit, which is the highest of a shift amount of 6 bits
abbrev pub funct6 : ℕ → Pattern
funct6 n = at 26 6 n

-- a row of 32 bits
abbrev pub row : Op → Format → List Pattern → Row
row op format fields = record { op = op; is = all fields; but = []; length = 4; format = format }

abbrev pub u_type : Op → ℕ → Row
u_type op code = row op formats.U (opcode code ∷ [])

abbrev pub j_type : Op → ℕ → Row
j_type op code = row op formats.J (opcode code ∷ [])

abbrev pub i_type : Op → (code funct : ℕ) → Row
i_type op code funct = row op formats.I (opcode code ∷ funct3 funct ∷ [])

abbrev pub i_offset : Op → (code funct : ℕ) → Row
i_offset op code funct = row op formats.IOffset (opcode code ∷ funct3 funct ∷ [])

abbrev pub i_shift : Op → (code funct upper : ℕ) → Row
i_shift op code funct upper = row op formats.IShift (opcode code ∷ funct3 funct ∷ funct6 upper ∷ [])

abbrev pub i_shift_word : Op → (code funct upper : ℕ) → Row
i_shift_word op code funct upper = row op formats.IShiftWord (opcode code ∷ funct3 funct ∷ funct7 upper ∷ [])

abbrev pub s_type : Op → (code funct : ℕ) → Row
s_type op code funct = row op formats.S (opcode code ∷ funct3 funct ∷ [])

abbrev pub b_type : Op → (code funct : ℕ) → Row
b_type op code funct = row op formats.B (opcode code ∷ funct3 funct ∷ [])

abbrev pub r_type : Op → (code funct upper : ℕ) → Row
r_type op code funct upper = row op formats.R (opcode code ∷ funct3 funct ∷ funct7 upper ∷ [])

-- A row of 16 bits, by its quadrant (bits 1 and 0), the number in bits 15 to 13, further fields, and what is excluded.
abbrev pub half : Op → Format → (quadrant funct : ℕ) → List Pattern → List Pattern → Row
half op format quadrant funct fields but =
    record { op = op; is = all (at 0 2 quadrant ∷ at 13 3 funct ∷ fields); but = but; length = 2; format = format }

-- The major opcodes. (table 24.1)
abbrev pub LUI : ℕ
LUI = 0x37

abbrev pub AUIPC : ℕ
AUIPC = 0x17

abbrev pub JAL : ℕ
JAL = 0x6f

abbrev pub JALR : ℕ
JALR = 0x67

abbrev pub BRANCH : ℕ
BRANCH = 0x63

abbrev pub LOAD : ℕ
LOAD = 0x03

abbrev pub STORE : ℕ
STORE = 0x23

abbrev pub OP_IMM : ℕ
OP_IMM = 0x13

abbrev pub OP_IMM_32 : ℕ
OP_IMM_32 = 0x1b

abbrev pub OP : ℕ
OP = 0x33

abbrev pub OP_32 : ℕ
OP_32 = 0x3b

abbrev pub MISC_MEM : ℕ
MISC_MEM = 0x0f

abbrev pub SYSTEM : ℕ
SYSTEM = 0x73

unfoldable pub rows : List Row
rows =
    -- Integer register-immediate instructions of U-type (2.4)
    u_type Lui LUI ∷
    u_type Auipc AUIPC ∷
    -- Unconditional jumps (2.5)
    j_type Jal JAL ∷
    i_offset Jalr JALR 0 ∷
    -- Conditional branches (2.5)
    b_type Beq BRANCH 0 ∷
    b_type Bne BRANCH 1 ∷
    b_type Blt BRANCH 4 ∷
    b_type Bge BRANCH 5 ∷
    b_type Bltu BRANCH 6 ∷
    b_type Bgeu BRANCH 7 ∷
    -- Loads (2.6 and 5.3)
    i_offset Lb LOAD 0 ∷
    i_offset Lh LOAD 1 ∷
    i_offset Lw LOAD 2 ∷
    i_offset Ld LOAD 3 ∷
    i_offset Lbu LOAD 4 ∷
    i_offset Lhu LOAD 5 ∷
    i_offset Lwu LOAD 6 ∷
    -- Stores (2.6 and 5.3)
    s_type Sb STORE 0 ∷
    s_type Sh STORE 1 ∷
    s_type Sw STORE 2 ∷
    s_type Sd STORE 3 ∷
    -- Integer register-immediate instructions (2.4 and 5.2)
    i_type Addi OP_IMM 0 ∷
    i_shift Slli OP_IMM 1 0 ∷
    i_type Slti OP_IMM 2 ∷
    i_type Sltiu OP_IMM 3 ∷
    i_type Xori OP_IMM 4 ∷
    i_shift Srli OP_IMM 5 0 ∷
    i_shift Srai OP_IMM 5 0x10 ∷
    i_type Ori OP_IMM 6 ∷
    i_type Andi OP_IMM 7 ∷
    -- The same on 32 bits (5.2)
    i_type Addiw OP_IMM_32 0 ∷
    i_shift_word Slliw OP_IMM_32 1 0 ∷
    i_shift_word Srliw OP_IMM_32 5 0 ∷
    i_shift_word Sraiw OP_IMM_32 5 0x20 ∷
    -- Integer register-register instructions (2.4); those with funct7 1 multiply and divide (7.1 and 7.2)
    r_type Add OP 0 0 ∷
    r_type Sub OP 0 0x20 ∷
    r_type Mul OP 0 1 ∷
    r_type Sll OP 1 0 ∷
    r_type Mulh OP 1 1 ∷
    r_type Slt OP 2 0 ∷
    r_type Mulhsu OP 2 1 ∷
    r_type Sltu OP 3 0 ∷
    r_type Mulhu OP 3 1 ∷
    r_type Xor OP 4 0 ∷
    r_type Div OP 4 1 ∷
    r_type Srl OP 5 0 ∷
    r_type Sra OP 5 0x20 ∷
    r_type Divu OP 5 1 ∷
    r_type Or OP 6 0 ∷
    r_type Rem OP 6 1 ∷
    r_type And OP 7 0 ∷
    r_type Remu OP 7 1 ∷
    -- The same on 32 bits (5.2, 7.1 and 7.2)
    r_type Addw OP_32 0 0 ∷
    r_type Subw OP_32 0 0x20 ∷
    r_type Mulw OP_32 0 1 ∷
    r_type Sllw OP_32 1 0 ∷
    r_type Divw OP_32 4 1 ∷
    r_type Srlw OP_32 5 0 ∷
    r_type Sraw OP_32 5 0x20 ∷
    r_type Divuw OP_32 5 1 ∷
    r_type Remw OP_32 6 1 ∷
    r_type Remuw OP_32 7 1 ∷
    -- Memory ordering, environment calls and breakpoints (2.7 and 2.8)
    row Fence formats.Fence (opcode MISC_MEM ∷ funct3 0 ∷ []) ∷
    row Ecall formats.Whole (opcode SYSTEM ∷ at 7 25 0 ∷ []) ∷
    row Ebreak formats.Whole (opcode SYSTEM ∷ at 7 13 0 ∷ at 20 12 1 ∷ []) ∷
    -- Quadrant 0 (table 16.5): C.ADDI4SPN, C.LW, C.LD, C.SW, C.SD
    half Addi formats.Ciw 0 0 [] (at 5 8 0 ∷ []) ∷
    half Lw formats.ClLw 0 2 [] [] ∷
    half Ld formats.ClLd 0 3 [] [] ∷
    half Sw formats.CsSw 0 6 [] [] ∷
    half Sd formats.CsSd 0 7 [] [] ∷
    -- Quadrant 1 (table 16.6): C.NOP and C.ADDI, C.ADDIW, C.LI, C.ADDI16SP, C.LUI
    half Addi formats.Ci 1 0 [] [] ∷
    half Addiw formats.Ci 1 1 [] (at 7 5 0 ∷ []) ∷
    half Addi formats.CiLi 1 2 [] [] ∷
    half Addi formats.CiSp 1 3 (at 7 5 2 ∷ []) (all (at 12 1 0 ∷ at 2 5 0 ∷ []) ∷ []) ∷
    half Lui formats.CiLui 1 3 [] (at 7 5 2 ∷ all (at 12 1 0 ∷ at 2 5 0 ∷ []) ∷ []) ∷
    -- C.SRLI, C.SRAI, C.ANDI, C.SUB, C.XOR, C.OR, C.AND, C.SUBW, C.ADDW
    half Srli formats.CbShift 1 4 (at 10 2 0 ∷ []) [] ∷
    half Srai formats.CbShift 1 4 (at 10 2 1 ∷ []) [] ∷
    half Andi formats.CbAndi 1 4 (at 10 2 2 ∷ []) [] ∷
    half Sub formats.Ca 1 4 (at 10 3 3 ∷ at 5 2 0 ∷ []) [] ∷
    half Xor formats.Ca 1 4 (at 10 3 3 ∷ at 5 2 1 ∷ []) [] ∷
    half Or formats.Ca 1 4 (at 10 3 3 ∷ at 5 2 2 ∷ []) [] ∷
    half And formats.Ca 1 4 (at 10 3 3 ∷ at 5 2 3 ∷ []) [] ∷
    half Subw formats.Ca 1 4 (at 10 3 7 ∷ at 5 2 0 ∷ []) [] ∷
    half Addw formats.Ca 1 4 (at 10 3 7 ∷ at 5 2 1 ∷ []) [] ∷
    -- C.J, C.BEQZ, C.BNEZ
    half Jal formats.Cj 1 5 [] [] ∷
    half Beq formats.Cb 1 6 [] [] ∷
    half Bne formats.Cb 1 7 [] [] ∷
    -- Quadrant 2 (table 16.7): C.SLLI, C.LWSP, C.LDSP
    half Slli formats.CiSlli 2 0 [] [] ∷
    half Lw formats.CiLwsp 2 2 [] (at 7 5 0 ∷ []) ∷
    half Ld formats.CiLdsp 2 3 [] (at 7 5 0 ∷ []) ∷
    -- C.JR, C.MV, C.EBREAK, C.JALR, C.ADD
    half Jalr formats.CrJr 2 4 (at 12 1 0 ∷ at 2 5 0 ∷ []) (at 7 5 0 ∷ []) ∷
    half Add formats.CrMv 2 4 (at 12 1 0 ∷ []) (at 2 5 0 ∷ []) ∷
    half Ebreak formats.Whole 2 4 (at 12 1 1 ∷ at 2 10 0 ∷ []) [] ∷
    half Jalr formats.CrJalr 2 4 (at 12 1 1 ∷ at 2 5 0 ∷ []) (at 7 5 0 ∷ []) ∷
    half Add formats.CrAdd 2 4 (at 12 1 1 ∷ []) (at 2 5 0 ∷ []) ∷
    -- C.SWSP, C.SDSP
    half Sw formats.CssSwsp 2 6 [] [] ∷
    half Sd formats.CssSdsp 2 7 [] [] ∷
    []
