use Rattle.prov_laws.proofs.EntryLemmas.{calls_begin}
use Rattle.prov_laws.proofs.entries.calls_begin.Goals as goal

pub returns : goal.returns
returns c = calls_begin c.fits_is_sound.ensures
