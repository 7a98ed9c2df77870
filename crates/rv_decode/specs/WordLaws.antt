-- What the word of an instruction means.
use Rattle.std.specs.Prelude.{◌≡◌, ◌<◌, ◌^◌, ◌/◌, ◌%◌, true, Some}
use Rattle.rv_decode.specs.Encoded.{encoded}
use Rattle.rv_decode.specs.Fits.{fits}
use Rattle.rv_decode.specs.Means.{decoded}
use Rattle.rv_decode.specs.declared.insn.Insn.{Insn}

-- it has 32 bits
abbrev pub WordsFit : Type 0
WordsFit = (insn : Insn) → encoded insn < 2 ^ 32

-- it decodes to the instruction
abbrev pub WordsDecode : Type 0
WordsDecode = (insn : Insn) → fits insn ≡ true → decoded (encoded insn % 2 ^ 16) (encoded insn / 2 ^ 16) ≡ Some (insn, 4)
