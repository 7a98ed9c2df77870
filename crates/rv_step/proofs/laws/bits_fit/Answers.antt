use Rattle.rv_step.proofs.Numbers.{imm_lt}
use Rattle.rv_step.proofs.laws.bits_fit.Goals as goal

pub returns : goal.returns
returns c = imm_lt
