use Rattle.std.proofs.Common.{refl, ◌≡◌, arith}
use Rattle.std.proofs.lemmas.Bool.Decides.{nat_tests}
use Rattle.uh_base.specs.Bytes.{loaded, first_refused, number_at}
use Rattle.code_tests.proofs.steps.ConstantBus.load.Goals as goal

pub returns-in-1 : goal.returns-in-1
unfolding loaded first_refused number_at
returns-in-1 c = rw c.in-1.is refl

pub returns-in-2 : goal.returns-in-2
unfolding loaded first_refused number_at
returns-in-2 c = rw c.in-2.is refl

pub returns-in-4 : goal.returns-in-4
unfolding loaded first_refused number_at
returns-in-4 c = rw c.in-4.is refl

pub returns-in_default : goal.returns-in_default
unfolding loaded first_refused number_at
returns-in_default c = let width : c.args.width ≡ 8 = grind (arith, nat_tests) in rw width refl
