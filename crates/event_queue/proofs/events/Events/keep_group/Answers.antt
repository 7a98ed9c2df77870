use Rattle.std.proofs.Common.{◌∙◌, List, length, ap, arith}
use Rattle.event_queue.specs.declared.event.Event.{Event}
use Rattle.event_queue.specs.Queue.{is_kept, kept_calls}
use Rattle.event_queue.proofs.Caches.{nothing_queued}
use Rattle.event_queue.proofs.CallLemmas.{few_kept}
use Rattle.event_queue.proofs.Wholes.{kept_whole}
use Rattle.event_queue.proofs.events.Events.keep_group.Goals as goal

pub invariant_of-self : goal.invariant_of-self
invariant_of-self c =
    let k = c.keep.ensures.capacity in
    let l = c.clear.ensures.capacity in
    let m = c.self.invariant.1 in
    let n = c.self.invariant.2 in (
      rw (c.keep.ensures.kept, c.clear.ensures.items) (kept_whole _ (is_kept c.args.group.now) c.self.invariant.0),
      omega (arith, k, m),
      omega (arith, l, n),
      rw c.clear.ensures.items nothing_queued,
      (cc),
    )

pub returns-clause-few : goal.returns-clause-few
returns-clause-few c =
    let few = few_kept _ c.args.group.now c.self.invariant.0 in
    let long = ap length c.in_ok-calls.ensures ∙ ap (λ (es : List Event). length (kept_calls es c.args.group.now)) c.as_slice.ensures.value in
    omega (arith, few, long)
