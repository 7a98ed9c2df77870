use Rattle.std.proofs.Common.{refl}
use Rattle.uh_base.specs.Bytes.{loaded, first_refused, number_at}
use Rattle.code_tests.proofs.steps.ConstantBus.fetch.Goals as goal

pub returns : goal.returns
unfolding loaded first_refused number_at
returns c = refl
