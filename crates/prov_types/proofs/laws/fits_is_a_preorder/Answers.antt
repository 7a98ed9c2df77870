use Rattle.prov_types.proofs.BoundLemmas.{fits_reflexive, fits_transitive}
use Rattle.prov_types.proofs.laws.fits_is_a_preorder.Goals as goal

pub returns-clause-reflexive : goal.returns-clause-reflexive
returns-clause-reflexive c = fits_reflexive

pub returns-clause-transitive : goal.returns-clause-transitive
returns-clause-transitive c = fits_transitive
