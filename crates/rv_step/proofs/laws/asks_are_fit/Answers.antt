use Rattle.rv_step.proofs.Numbers.{are_fit}
use Rattle.rv_step.proofs.laws.asks_are_fit.Goals as goal

pub returns : goal.returns
returns c = are_fit
