use Rattle.variable_store.proofs.SetLemmas.{below_all}
use Rattle.variable_store.proofs.variable.bytes_fit.Goals as goal

pub returns : goal.returns
returns c = below_all _ _ (λ i. (c.type_inv.bytes i).fits)
