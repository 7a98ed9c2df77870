use Rattle.std.proofs.Common.{◌≡◌, ◌-◌, zero, suc, arith, refl}
use Rattle.protocol_services.proofs.ListLemmas.{address_next, addresses_over}
use Rattle.protocol_services.proofs.lists.guid_addresses.Goals as goal

pub loop-left-preserved : goal.loop-left-preserved
loop-left-preserved c =
    let k : c.loop-left.left ≡ suc (c.loop-left.left - 1) = omega arith in
    address_next _ _ _ _ _ _ _ k refl c.in_ok-push.ensures.items c.loop-left.invariant

pub returns : goal.returns
returns c =
    let over = c.loop-left-test.false in
    let n : c.loop-left.left ≡ zero = omega (arith, over) in
    addresses_over _ _ _ _ n c.loop-left.invariant
