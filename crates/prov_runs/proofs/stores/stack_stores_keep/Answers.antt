use Rattle.prov_runs.proofs.StoreLemmas.{stack_keeps, stack_keeps_code, stack_leaves}
use Rattle.prov_runs.proofs.stores.stack_stores_keep.Goals as goal

pub returns-clause-shared : goal.returns-clause-shared
returns-clause-shared c = stack_keeps c.other_bytes_stay.ensures

pub returns-clause-code : goal.returns-clause-code
returns-clause-code c = stack_keeps_code c.other_bytes_stay.ensures

pub returns-clause-parts : goal.returns-clause-parts
returns-clause-parts c = stack_leaves c.other_bytes_stay.ensures c.stored_is_loaded.ensures
