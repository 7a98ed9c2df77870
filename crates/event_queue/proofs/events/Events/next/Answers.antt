use Rattle.std.proofs.Common.{◌∙◌, sym, ap, arith, refl}
use Rattle.std.specs.Prelude.{slice_get}
use Rattle.event_queue.specs.Queue.{EventList, lowered, event_at, next_entry}
use Rattle.event_queue.proofs.Caches.{due_set}
use Rattle.event_queue.proofs.Wholes.{get_below}
use Rattle.event_queue.proofs.Next.{next_whole, next_is, has_event, entry_level, some_next}
use Rattle.event_queue.proofs.events.Events.next.Goals as goal

pub unreachable-requires : goal.unreachable-requires
unreachable-requires c =
    let queued = ap (λ q. slice_get q c.in-Some.queued) (sym c.as_slice.ensures.value) ∙ c.in-Some.ensures.here in
    has_event _ c.in-Some.queued c.in-Some.entry c.self.invariant.0 queued (ap (λ (s : EventList). event_at s.events c.in-Some.entry.event) c.self.view_is ∙ c.in_default-find.ensures.none)

pub remove-requires : goal.remove-requires
remove-requires c =
    let queued = ap (λ q. slice_get q c.in-Some.queued) (sym c.as_slice.ensures.value) ∙ c.in-Some.ensures.here in
    let k = get_below c.in-Some.queued c.self.inside.queue.items c.in-Some.entry queued in
    omega (arith, k)

pub index_mut-requires : goal.index_mut-requires
index_mut-requires c =
    let here = ap (λ (s : EventList). slice_get s.events c.in-Some-find.place) c.self.view_is ∙ c.in-Some-find.ensures.some in
    let k = get_below c.in-Some-find.place c.self.inside.events.items c.in-Some-find.event here in
    omega (arith, k)

pub overflow_cast-result : goal.overflow_cast-result
overflow_cast-result c =
    let queued = ap (λ q. slice_get q c.in-Some.queued) (sym c.as_slice.ensures.value) ∙ c.in-Some.ensures.here in
    let k = entry_level _ c.in-Some.queued c.in-Some.entry c.self.invariant.0 queued in
    omega (arith, k.1)

pub invariant_of-self : goal.invariant_of-self
invariant_of-self c =
    let queued = ap (λ q. slice_get q c.in-Some.queued) (sym c.as_slice.ensures.value) ∙ c.in-Some.ensures.here in
    let here = ap (λ (s : EventList). slice_get s.events c.in-Some-find.place) c.self.view_is ∙ c.in-Some-find.ensures.some in
    let k = c.remove.ensures.capacity in
    let l = c.self.invariant.2 in (
      rw c.remove.ensures.items (next_whole _ c.in-Some-find.place c.in-Some.queued c.in-Some-find.event c.in-Some.entry c.self.invariant.0 here queued c.in-Some-find.ensures.number),
      c.self.invariant.1,
      omega (arith, k, l),
      (cc),
      c.self.invariant.4 ∙ sym (due_set c.in-Some-find.place c.self.inside.events.items c.in-Some-find.event (lowered c.in-Some-find.event) here refl),
    )

pub returns-clause-events : goal.returns-clause-events
returns-clause-events c =
    let queued = ap (λ q. slice_get q c.in-Some.queued) (sym c.as_slice.ensures.value) ∙ c.in-Some.ensures.here in
    let here = ap (λ (s : EventList). slice_get s.events c.in-Some-find.place) c.self.view_is ∙ c.in-Some-find.ensures.some in
    rw c.remove.ensures.items (next_is _ c.in-Some-find.place c.in-Some.queued c.in-Some-find.event c.in-Some.entry c.self.invariant.0 here queued c.in-Some-find.ensures.number
    ∙ some_next _ c.args.self.now c.as_slice.result.now c.args.tpl c.in-Some.entry c.self.view_is c.as_slice.ensures.value (ap (next_entry c.as_slice.result.now) (sym c.from.ensures) ∙ c.in-Some.ensures.some))

pub returns-clause-below : goal.returns-clause-below
returns-clause-below c =
    let queued = ap (λ q. slice_get q c.in-Some.queued) (sym c.as_slice.ensures.value) ∙ c.in-Some.ensures.here in
    let k = entry_level _ c.in-Some.queued c.in-Some.entry c.self.invariant.0 queued in
    omega (arith, k.1)
