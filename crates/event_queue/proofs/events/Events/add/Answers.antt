use Rattle.std.proofs.Common.{length, arith, ap, sym, ◌∙◌, ◌<◌, ◌≡◌, ◌+◌, ◌-◌, ◌^◌}
use Rattle.event_queue.specs.Queue.{EventList, shown}
use Rattle.event_queue.specs.Timers.{least_due}
use Rattle.event_queue.specs.Calls.{with_event}
use Rattle.event_queue.proofs.Wholes.{add_whole}
use Rattle.event_queue.proofs.Caches.{due_push}
use Rattle.event_queue.proofs.events.Events.add.Goals as goal

pub invariant_of-self : goal.invariant_of-self
invariant_of-self c =
    let l = ap (λ (s : EventList). length s.events) c.self.view_is in
    let m = ap (λ (s : EventList). s.made) c.self.view_is in
    let n = c.requires.number in
    let few : length c.self.inside.events.items < 256 = (let k = c.requires.few in omega (arith, l, k)) in
    let made : c.self.inside.made < 2 ^ 60 - 1 = (let k = c.requires.made in omega (arith, m, k)) in
    let number : c.args.event.number ≡ shown (c.self.inside.made + 1) = omega (arith, m, n) in (
      rw c.push_reserved.ensures.items (add_whole _ c.args.event c.self.invariant.0 few made number c.requires.level),
      (let k = c.push_reserved.ensures.capacity in let i = c.self.invariant.1 in omega (arith, k, i)),
      c.self.invariant.2,
      c.self.invariant.3,
      c.self.invariant.4 ∙ sym (ap least_due c.push_reserved.ensures.items ∙ due_push c.self.inside.events.items c.args.event c.requires.timer),
    )

pub returns : goal.returns
unfolding with_event
returns c = rw c.push_reserved.ensures.items (ap (λ s. with_event s c.args.event) c.self.view_is)
