use Rattle.rv_decode.proofs.EncodeLemmas.{fits_exactly}
use Rattle.rv_decode.proofs.encoder.fits_exactly.Goals as goal

pub returns : goal.returns
returns c = fits_exactly
