-- The number of each name, in the order of `Op`, at which its row of 32 bits stands in the table.
use Rattle.std.specs.Prelude.{ℕ, Option, Some, None, slice_get}
use Rattle.rv_decode.specs.Rows.{Row, rows}
use Rattle.rv_decode.specs.declared.insn.Op.{Op}
use Rattle.rv_decode.specs.declared.insn.Op.TheVariants as ops
use Rattle.rv_decode.specs.declared.table.Format.{Format}
use Rattle.rv_decode.specs.declared.table.Format.TheVariants as formats

abbrev pub place_of : Op → ℕ
place_of ops.Lui = 0
place_of ops.Auipc = 1
place_of ops.Jal = 2
place_of ops.Jalr = 3
place_of ops.Beq = 4
place_of ops.Bne = 5
place_of ops.Blt = 6
place_of ops.Bge = 7
place_of ops.Bltu = 8
place_of ops.Bgeu = 9
place_of ops.Lb = 10
place_of ops.Lh = 11
place_of ops.Lw = 12
place_of ops.Ld = 13
place_of ops.Lbu = 14
place_of ops.Lhu = 15
place_of ops.Lwu = 16
place_of ops.Sb = 17
place_of ops.Sh = 18
place_of ops.Sw = 19
place_of ops.Sd = 20
place_of ops.Addi = 21
place_of ops.Slli = 22
place_of ops.Slti = 23
place_of ops.Sltiu = 24
place_of ops.Xori = 25
place_of ops.Srli = 26
place_of ops.Srai = 27
place_of ops.Ori = 28
place_of ops.Andi = 29
place_of ops.Addiw = 30
place_of ops.Slliw = 31
place_of ops.Srliw = 32
place_of ops.Sraiw = 33
place_of ops.Add = 34
place_of ops.Sub = 35
place_of ops.Mul = 36
place_of ops.Sll = 37
place_of ops.Mulh = 38
place_of ops.Slt = 39
place_of ops.Mulhsu = 40
place_of ops.Sltu = 41
place_of ops.Mulhu = 42
place_of ops.Xor = 43
place_of ops.Div = 44
place_of ops.Srl = 45
place_of ops.Sra = 46
place_of ops.Divu = 47
place_of ops.Or = 48
place_of ops.Rem = 49
place_of ops.And = 50
place_of ops.Remu = 51
place_of ops.Addw = 52
place_of ops.Subw = 53
place_of ops.Mulw = 54
place_of ops.Sllw = 55
place_of ops.Divw = 56
place_of ops.Srlw = 57
place_of ops.Sraw = 58
place_of ops.Divuw = 59
place_of ops.Remw = 60
place_of ops.Remuw = 61
place_of ops.Fence = 62
place_of ops.Ecall = 63
place_of ops.Ebreak = 64

abbrev pub format_in : Option Row → Format
format_in (Some row) = row.format
format_in None = formats.Whole

-- the format of a name's row of 32 bits
unfoldable pub format_of : Op → Format
format_of op = format_in (slice_get rows (place_of op))
