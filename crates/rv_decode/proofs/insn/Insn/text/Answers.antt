use Rattle.std.proofs.Common.{sym}
use Rattle.rv_decode.specs.Texts.{text_of}
use Rattle.rv_decode.proofs.EncodeLemmas.{fits_names, format_is}
use Rattle.rv_decode.proofs.insn.Insn.text.Goals as goal

pub text_in-requires : goal.text_in-requires
text_in-requires c = fits_names c.args.self.now c.requires

pub returns : goal.returns
unfolding text_of
returns c = rw (sym (format_is c.args.self.now.op c.row_of_name-row.result c.row_of_name-row.ensures), sym c.name.ensures) c.text_in.ensures
