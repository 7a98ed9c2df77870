use Rattle.prov_types.proofs.TestLemmas.{test_exact}
use Rattle.prov_types.proofs.holding.test_is_exact.Goals as goal

pub returns : goal.returns
returns c = test_exact
