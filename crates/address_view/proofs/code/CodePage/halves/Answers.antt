use Rattle.std.proofs.Common.{refl}
use Rattle.address_view.proofs.CodeLemmas.{are_halves}
use Rattle.address_view.proofs.code.CodePage.halves.Goals as goal

pub returns : goal.returns
returns c = are_halves _ _ _ c.args.at _ c.requires c.if-into-self.false _ _ c.ranges.at.fits c.fits-self.0.1 refl c.number.ensures.value c.number-2.ensures.value
