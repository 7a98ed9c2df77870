use Rattle.prov_types.proofs.BoundLemmas.{fits_sound}
use Rattle.prov_types.proofs.laws.fits_is_sound.Goals as goal

pub returns : goal.returns
returns c = fits_sound
