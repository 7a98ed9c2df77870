-- The word of 32 bits that an instruction has. That of FENCE is the word of `fence iorw, iorw`; any other instruction
-- that fits has no other word. (RISC-V unprivileged manual, version 20191213, 2.7)
use Rattle.std.specs.Prelude.{ℕ, Option, Some, None, slice_get}
use Rattle.rv_decode.specs.Names.{place_of}
use Rattle.rv_decode.specs.Packed.{packed}
use Rattle.rv_decode.specs.Rows.{Row, rows}
use Rattle.rv_decode.specs.declared.insn.Insn.{Insn}

abbrev pub word_in : Option Row → Insn → ℕ
word_in None insn = 0
word_in (Some row) insn = packed row.format row.is.value insn

unfoldable pub encoded : Insn → ℕ
encoded insn = word_in (slice_get rows (place_of insn.op)) insn
