use Rattle.std.proofs.Common.{refl, sym}
use Rattle.check_tests.proofs.rows.EverywherePageRights.allowed.Goals as goal

pub returns : goal.returns
returns c = sym (c.every_is_each.ensures.passes _ _ _ _ (λ i h. refl))
