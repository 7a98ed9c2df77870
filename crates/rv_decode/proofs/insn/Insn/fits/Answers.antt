use Rattle.std.proofs.Common.{◌∙◌, ap}
use Rattle.rv_decode.specs.Fits.{fits, in_range}
use Rattle.rv_decode.proofs.EncodeLemmas.{format_is}
use Rattle.rv_decode.proofs.insn.Insn.fits.Goals as goal

pub returns : goal.returns
unfolding fits
returns c = c.in_range.ensures ∙ ap (λ f. in_range f c.args.self.now) (format_is _ c.row_of_name-row.result c.row_of_name-row.ensures)
