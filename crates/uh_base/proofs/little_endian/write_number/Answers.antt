use Rattle.std.proofs.Common.{◌∙◌, ap, take, length}
use Rattle.uh_base.proofs.EndianLemmas.{first_bytes}
use Rattle.uh_base.proofs.little_endian.write_number.Goals as goal

pub returns : goal.returns
returns c = c.copy_from_slice.ensures.after ∙ ap (take (length c.args.bytes.now)) c.to_le_bytes.ensures ∙ first_bytes _ _ c.requires
