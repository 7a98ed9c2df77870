-- The kind of what an instruction writes, from the kinds of its operands: a rule for numbers, a rule for pointers, and Any
-- elsewhere.
use Rattle.std.specs.Prelude.{ℕ, ℤ, pos, Bool, true, false, ◌%◌, ◌^◌, ◌+◌, ◌-◌, ◌==◌, ◌&&◌, nat_lt, int_lt, unsigned_abs, Option, Some, None, List, if◌then◌else◌}
use Rattle.rv_decode.specs.declared.insn.Insn.{Insn}
use Rattle.rv_decode.specs.declared.insn.Op.{Op}
use Rattle.rv_decode.specs.declared.insn.Op.TheVariants as ops
use Rattle.uh_base.specs.Bytes.{plus}
use Rattle.rv_step.specs.Values.{bits_of, extended}
use Rattle.prov_types.specs.declared.kinds.Span.{Span}
use Rattle.prov_types.specs.declared.kinds.Place.{Place}
use Rattle.prov_types.specs.declared.kinds.Kind.{Kind}
use Rattle.prov_types.specs.declared.kinds.Kind.TheVariants.{Any, Num, Ptr}
use Rattle.prov_types.specs.Spans.{spanning, one, whole, sum, difference, raised, lowered, below}
use Rattle.prov_types.specs.Kinds.{length_of}

-- a number that may leave 64 bits is any number
abbrev pub number : Option Span → Kind
number None = Num whole
number (Some s) = Num s

-- of a pointer that may leave its region nothing is known
abbrev pub pointer : List ℕ → ℕ → Option Span → Kind
pointer lens r None = Any
pointer lens r (Some s) = if nat_lt (length_of lens r) s.hi then Any else Ptr r s

-- ADD: two numbers, or a pointer and a number
unfoldable pub added : List ℕ → Kind → Kind → Kind
added lens (Num s) (Num t) = number (sum s t)
added lens (Ptr r s) (Num t) = pointer lens r (sum s t)
added lens (Num s) (Ptr r t) = pointer lens r (sum s t)
added lens _ _ = Any

-- SUB: two numbers, a pointer less a number, or two pointers into one region, whose distance is one number in both runs
unfoldable pub subtracted : List ℕ → Kind → Kind → Kind
subtracted lens (Num s) (Num t) = number (difference s t)
subtracted lens (Ptr r s) (Num t) = pointer lens r (difference s t)
subtracted lens (Ptr r s) (Ptr q t) = if r == q then Num whole else Any
subtracted lens _ _ = Any

-- ADDI: the immediate is added as the signed number that it is
unfoldable pub moved : List ℕ → Kind → ℤ → Kind
moved lens a imm = if int_lt imm (pos 0) then subtracted lens a (Num (one (unsigned_abs imm))) else added lens a (Num (one (unsigned_abs imm)))

-- SLLI
unfoldable pub shifted_left : Kind → ℕ → Kind
shifted_left (Num s) k = number (raised s k)
shifted_left _ k = Any

-- SRLI
unfoldable pub shifted_right : Kind → ℕ → Kind
shifted_right (Num s) k = Num (lowered s k)
shifted_right _ k = Any

-- ANDI: by a value below 2^63
unfoldable pub masked : Kind → ℕ → Kind
masked (Num s) m = if nat_lt m (2 ^ 63) then Num (below s m) else Num whole
masked _ m = Any

-- AND: with one value below 2^63 on either side
unfoldable pub anded : Kind → Kind → Kind
anded (Num s) (Num t) =
    if t.lo == t.hi && nat_lt t.lo (2 ^ 63) then Num (below s t.lo)
    else (if s.lo == s.hi && nat_lt s.lo (2 ^ 63) then Num (below t s.lo) else Num whole)
anded _ _ = Any

-- REMU: by one value above 0
unfoldable pub rest_of : Kind → Kind → Kind
rest_of (Num s) (Num t) = if t.lo == t.hi && nat_lt 0 t.lo then Num (below s (t.lo - 1)) else Num whole
rest_of _ _ = Any

-- 0 or 1
abbrev pub flag : Kind
flag = Num (spanning 0 1 1)

-- SLTU: two numbers, or two pointers into one region
unfoldable pub ordered_unsigned : Kind → Kind → Kind
ordered_unsigned (Num s) (Num t) = flag
ordered_unsigned (Ptr r s) (Ptr q t) = if r == q then flag else Any
ordered_unsigned _ _ = Any

-- SLT, SLTI and SLTIU: two numbers
unfoldable pub ordered : Kind → Kind → Kind
ordered (Num s) (Num t) = flag
ordered _ _ = Any

-- the span of a number and a signed one added
unfoldable pub moved_span : Span → ℤ → Option Span
moved_span s imm = if int_lt imm (pos 0) then difference s (one (unsigned_abs imm)) else sum s (one (unsigned_abs imm))

abbrev pub is_below_31_bits : Option Span → Bool
is_below_31_bits None = false
is_below_31_bits (Some s) = nat_lt s.hi (2 ^ 31)

abbrev pub is_span : Option Span → Bool
is_span None = false
is_span (Some s) = true

-- ADDIW: the sums where all are below 2^31 before they are cut to 32 bits; else of one value, whose sum stays in 64 bits, the
-- one result where that is below 2^31
unfoldable pub moved_word : Kind → ℤ → Kind
moved_word (Num s) imm =
    if is_below_31_bits (moved_span s imm) then number (moved_span s imm)
    else (if s.lo == s.hi && (is_span (moved_span s imm) && nat_lt (extended (s.lo + bits_of imm)) (2 ^ 31)) then Num (one (extended (s.lo + bits_of imm))) else Num whole)
moved_word _ imm = Any

-- numbers give any number
unfoldable pub any_of : Kind → Kind → Kind
any_of (Num s) (Num t) = Num whole
any_of _ _ = Any

-- an offset of the image as a pointer
abbrev pub image_kind : List ℕ → ℕ → Kind
image_kind lens o = if nat_lt (length_of lens 0) o then Any else Ptr 0 (one o)

-- LUI: its one value, or the offset that a HIGH20 site names
abbrev pub upper_kind : List ℕ → ℤ → Option ℕ → Kind
upper_kind lens imm None = Num (one (bits_of imm))
upper_kind lens imm (Some target) = image_kind lens target

-- One line a name; the last is of all that writes no register, and of loads, whose result rests on memory.
abbrev pub transfer_as : Op → ℤ → Place → Kind → Kind → List ℕ → Kind
transfer_as ops.Lui imm place a b lens = upper_kind lens imm place.target
transfer_as ops.Auipc imm place a b lens = image_kind lens (plus place.at (bits_of imm))
transfer_as ops.Jal imm place a b lens = image_kind lens (plus place.at place.len)
transfer_as ops.Jalr imm place a b lens = image_kind lens (plus place.at place.len)
transfer_as ops.Add imm place a b lens = added lens a b
transfer_as ops.Addi imm place a b lens = moved lens a imm
transfer_as ops.Sub imm place a b lens = subtracted lens a b
transfer_as ops.Slli imm place a b lens = shifted_left a (bits_of imm % 64)
transfer_as ops.Srli imm place a b lens = shifted_right a (bits_of imm % 64)
transfer_as ops.Andi imm place a b lens = masked a (bits_of imm)
transfer_as ops.And imm place a b lens = anded a b
transfer_as ops.Remu imm place a b lens = rest_of a b
transfer_as ops.Addiw imm place a b lens = moved_word a imm
transfer_as ops.Sltu imm place a b lens = ordered_unsigned a b
transfer_as ops.Slt imm place a b lens = ordered a b
transfer_as ops.Slti imm place a b lens = ordered a (Num whole)
transfer_as ops.Sltiu imm place a b lens = ordered a (Num whole)
transfer_as ops.Xori imm place a b lens = any_of a (Num whole)
transfer_as ops.Ori imm place a b lens = any_of a (Num whole)
transfer_as ops.Srai imm place a b lens = any_of a (Num whole)
transfer_as ops.Slliw imm place a b lens = any_of a (Num whole)
transfer_as ops.Srliw imm place a b lens = any_of a (Num whole)
transfer_as ops.Sraiw imm place a b lens = any_of a (Num whole)
transfer_as ops.Sll imm place a b lens = any_of a b
transfer_as ops.Xor imm place a b lens = any_of a b
transfer_as ops.Srl imm place a b lens = any_of a b
transfer_as ops.Sra imm place a b lens = any_of a b
transfer_as ops.Or imm place a b lens = any_of a b
transfer_as ops.Addw imm place a b lens = any_of a b
transfer_as ops.Subw imm place a b lens = any_of a b
transfer_as ops.Sllw imm place a b lens = any_of a b
transfer_as ops.Srlw imm place a b lens = any_of a b
transfer_as ops.Sraw imm place a b lens = any_of a b
transfer_as ops.Mul imm place a b lens = any_of a b
transfer_as ops.Mulh imm place a b lens = any_of a b
transfer_as ops.Mulhsu imm place a b lens = any_of a b
transfer_as ops.Mulhu imm place a b lens = any_of a b
transfer_as ops.Mulw imm place a b lens = any_of a b
transfer_as ops.Div imm place a b lens = any_of a b
transfer_as ops.Divu imm place a b lens = any_of a b
transfer_as ops.Rem imm place a b lens = any_of a b
transfer_as ops.Divw imm place a b lens = any_of a b
transfer_as ops.Divuw imm place a b lens = any_of a b
transfer_as ops.Remw imm place a b lens = any_of a b
transfer_as ops.Remuw imm place a b lens = any_of a b
transfer_as _ imm place a b lens = Any

-- the kind of what is written, where a and b are the kinds of rs1 and rs2
unfoldable pub transfer : Insn → Place → Kind → Kind → List ℕ → Kind
transfer insn place a b lens = transfer_as insn.op insn.imm place a b lens
