use Rattle.prov_runs.proofs.StoreLemmas.{code_stays, others_stay, parts_stay, stores_keep}
use Rattle.prov_runs.proofs.stores.stores_keep.Goals as goal

pub returns-clause-shared : goal.returns-clause-shared
returns-clause-shared c = stores_keep c.fits_is_sound.ensures c.other_bytes_stay.ensures c.stores_its_bytes.ensures c.stored_is_loaded.ensures

pub returns-clause-others : goal.returns-clause-others
returns-clause-others c = others_stay c.other_bytes_stay.ensures

pub returns-clause-code : goal.returns-clause-code
returns-clause-code c = code_stays c.other_bytes_stay.ensures

pub returns-clause-parts : goal.returns-clause-parts
returns-clause-parts c = parts_stay c.other_bytes_stay.ensures
