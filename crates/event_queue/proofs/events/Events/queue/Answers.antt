use Rattle.std.proofs.Common.{◌∙◌, sym, ap, arith, max}
use Rattle.std.specs.Prelude.{slice_get}
use Rattle.event_queue.specs.Queue.{EventList, is_queued, queue_one}
use Rattle.event_queue.specs.declared.event.Entry.{Entry}
use Rattle.event_queue.proofs.Caches.{top_pushed}
use Rattle.event_queue.proofs.Wholes.{wait_room, wait_whole, wait_is, wait_again, is_placed, is_unplaced}
use Rattle.event_queue.proofs.events.Events.queue.Goals as goal

pub push_reserved-requires : goal.push_reserved-requires
push_reserved-requires c =
    let here = ap (λ (s : EventList). slice_get s.events c.args.place) c.self.view_is ∙ c.requires.event in
    let free = is_unplaced c.self.inside.queue.items c.as_slice.result.now c.args.event.number c.queued_at.result c.is_none.result c.as_slice.ensures.value c.queued_at.ensures c.is_none.ensures c.if-is_none.true in
    let k = wait_room _ c.args.place c.args.event c.self.invariant.0 here c.requires.wait c.requires.kind free in
    let l = c.self.invariant.2 in
    omega (arith, k, l)

pub invariant_of-self : goal.invariant_of-self
invariant_of-self c =
    let here = ap (λ (s : EventList). slice_get s.events c.args.place) c.self.view_is ∙ c.requires.event in
    let free = is_unplaced c.self.inside.queue.items c.as_slice.result.now c.args.event.number c.queued_at.result c.is_none.result c.as_slice.ensures.value c.queued_at.ensures c.is_none.ensures c.if-is_none.true in
    let l = c.self.invariant.2 in
    let k = c.push_reserved.ensures.capacity in (
      rw (c.push_reserved.ensures.items, c.entry.ensures) (wait_whole _ c.args.place c.args.event c.self.invariant.0 here c.requires.wait c.requires.kind free),
      c.self.invariant.1,
      omega (arith, k, l),
      top_pushed c.self.inside.queue.items _ c.entry.result c.self.inside.top c.max-self-inside.result c.push_reserved.ensures.items c.self.invariant.3 (c.max-self-inside.ensures ∙ ap (λ (x : Entry). max c.self.inside.top x.tpl) (sym c.entry.ensures)),
      c.self.invariant.4,
    )

pub returns-then-is_none : goal.returns-then-is_none
returns-then-is_none c =
    let here = ap (λ (s : EventList). slice_get s.events c.args.place) c.self.view_is ∙ c.requires.event in
    let free = is_unplaced c.self.inside.queue.items c.as_slice.result.now c.args.event.number c.queued_at.result c.is_none.result c.as_slice.ensures.value c.queued_at.ensures c.is_none.ensures c.if-is_none.true in
    rw (c.push_reserved.ensures.items, c.entry.ensures) (wait_is _ c.args.place c.args.event c.self.invariant.0 here free ∙ ap (λ s. queue_one s c.args.event.number) c.self.view_is)

pub returns-else-is_none : goal.returns-else-is_none
returns-else-is_none c =
    let held = is_placed c.self.inside.queue.items c.as_slice.result.now c.args.event.number c.queued_at.result c.is_none.result c.as_slice.ensures.value c.queued_at.ensures c.is_none.ensures c.if-is_none.false in
    wait_again c.args.self.now c.args.event.number (ap (λ (s : EventList). is_queued s.queue c.args.event.number) (sym c.self.view_is) ∙ held)
