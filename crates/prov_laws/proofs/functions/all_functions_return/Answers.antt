use Rattle.prov_laws.proofs.NotifyLemmas.{all_functions_return}
use Rattle.prov_laws.proofs.functions.all_functions_return.Goals as goal

pub returns : goal.returns
returns c = let one = c.functions_return.ensures in all_functions_return one.returns one.last
