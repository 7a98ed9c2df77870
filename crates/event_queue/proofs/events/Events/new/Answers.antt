use Rattle.std.proofs.Common.{arith}
use Rattle.event_queue.proofs.Wholes.{nothing_whole}
use Rattle.event_queue.proofs.Caches.{nothing_queued, nothing_due}
use Rattle.event_queue.proofs.events.Events.new.Goals as goal

pub invariant_of-result : goal.invariant_of-result
invariant_of-result c =
    let e = c.in_ok-with_capacity.ensures.items in
    let q = c.in_ok-with_capacity-2.ensures.items in
    let m = c.in_ok-with_capacity.ensures.capacity in
    let n = c.in_ok-with_capacity-2.ensures.capacity in (
      rw (e, q, c.new.ensures) (nothing_whole c.args.ticks.items),
      omega (arith, m),
      omega (arith, n),
      rw q nothing_queued,
      rw e nothing_due,
    )
