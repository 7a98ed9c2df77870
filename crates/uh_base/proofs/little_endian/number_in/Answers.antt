use Rattle.std.proofs.Common.{◌≡◌, length, arith, ◌∙◌}
use Rattle.uh_base.proofs.EndianLemmas.{eight_bytes}
use Rattle.uh_base.proofs.little_endian.number_in.Goals as goal

pub returns-in-len8 : goal.returns-in-len8
returns-in-len8 c =
    let len : length c.args.bytes.now ≡ 8 = omega arith in
    c.from_le_bytes-in-len8.ensures ∙ eight_bytes c.args.bytes.now len
