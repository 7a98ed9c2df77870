use Rattle.std.proofs.Common.{arith, ◌^◌, ◌-◌, ◌≤◌}
use Rattle.std.proofs.Math.Nat.{pow-le-pow_right}
use Rattle.map_transition.proofs.ByteLemmas.{below}
use Rattle.map_transition.proofs.marking.+number_at.Goals as goal

pub overflow_mul-result : goal.overflow_mul-result
overflow_mul-result t c = let h : 256 ^ (c.args.width - 1) ≤ 256 ^ 7 = pow-le-pow_right {n = 256} (omega arith) {i = c.args.width - 1} {j = 7} (omega arith) in omega (arith, h, c.number_at.ensures.below)

pub overflow_add-result : goal.overflow_add-result
overflow_add-result t c = let h : 256 ^ (c.args.width - 1) ≤ 256 ^ 7 = pow-le-pow_right {n = 256} (omega arith) {i = c.args.width - 1} {j = 7} (omega arith) in omega (arith, h, c.number_at.ensures.below)

pub returns-else-width-eq0-clause-below : goal.returns-else-width-eq0-clause-below
returns-else-width-eq0-clause-below t c = below _ _ _ (omega arith) (omega arith) c.number_at.ensures.below
