use Rattle.prov_laws.proofs.ConvertLemmas.{between_holds, conversion_keeps}
use Rattle.prov_laws.proofs.functions.conversion_keeps.Goals as goal

pub returns-clause-keeps : goal.returns-clause-keeps
returns-clause-keeps c = conversion_keeps c.other_bytes_stay.ensures c.stored_is_loaded.ensures

pub returns-clause-holds : goal.returns-clause-holds
returns-clause-holds c = between_holds
