use Rattle.prov_types.proofs.AskLemmas.{alike}
use Rattle.prov_types.proofs.laws.branches_compare_alike.Goals as goal

pub returns : goal.returns
returns c = alike
