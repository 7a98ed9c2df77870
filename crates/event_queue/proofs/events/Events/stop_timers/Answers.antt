use Rattle.std.proofs.Common.{arith, ap, length, sym}
use Rattle.event_queue.proofs.Caches.{due_stopped}
use Rattle.event_queue.proofs.Wholes.{stopped_whole, written_back}
use Rattle.event_queue.proofs.events.Events.stop_timers.Goals as goal

pub invariant_of-self : goal.invariant_of-self
invariant_of-self c =
    let value = c.as_mut_slice.ensures.value in
    let is = c.stop_all.ensures in
    let long = c.stop_all.auto.events in
    let same = ap length value in
    let back = written_back c.self.inside.events.len c.stop_all.new.events c.self.inside.events.items (omega (arith)) (omega (arith, long, same)) in (
      rw (back, is, value) (stopped_whole _ c.self.invariant.0),
      c.self.invariant.1,
      c.self.invariant.2,
      c.self.invariant.3,
      rw (back, is, value) (sym (due_stopped c.self.inside.events.items)),
    )
