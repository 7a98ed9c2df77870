use Rattle.std.proofs.Common.{refl, ◌≡◌, ℕ, zero, suc, true, None}
use Rattle.uh_base.specs.Bytes.{next, first_refused}
use Rattle.code_tests.proofs.steps.ConstantBus.store.Goals as goal

-- no address is refused where all are allowed
all_allowed : (at width : ℕ) → first_refused (λ a. true) at width ≡ None
unfolding first_refused
all_allowed at zero = refl
all_allowed at (suc n) = all_allowed (next at) n

pub returns-clause-end : goal.returns-clause-end
returns-clause-end c = (all_allowed c.args._at c.args._width, refl)
