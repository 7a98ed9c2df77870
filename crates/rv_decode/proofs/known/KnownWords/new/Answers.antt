use Rattle.std.proofs.Common.{◌≡◌, refl, pos, Some, None}
use Rattle.rv_decode.specs.Rows.{rows}
use Rattle.rv_decode.specs.Means.{decoded}
use Rattle.rv_decode.specs.declared.insn.Op.TheVariants.{Addi}
use Rattle.rv_decode.proofs.known.KnownWords.new.Goals as goal

-- the word of ADDI x0, x0, 0 is read
unreadable : decoded 19 0 ≡ None → ⊥
unfolding decoded rows
unreadable h =
    let e : decoded 19 0 ≡ Some (record { op = Addi; rd = 0; rs1 = 0; rs2 = 0; imm = pos 0 }, 4) = refl in
    cc

pub unreachable-requires : goal.unreachable-requires
unreachable-requires c = unreadable (c.in-None.ensures.none refl)
