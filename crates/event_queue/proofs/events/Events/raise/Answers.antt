use Rattle.std.proofs.Common.{◌∙◌, sym, ap, arith, max, refl}
use Rattle.std.specs.Prelude.{slice_get}
use Rattle.event_queue.specs.Queue.{EventList, raised, raise_one}
use Rattle.event_queue.specs.declared.event.Entry.{Entry}
use Rattle.event_queue.proofs.Caches.{top_pushed, due_set}
use Rattle.event_queue.proofs.Wholes.{get_below, raise_again, raise_room, raise_whole, raise_set_whole, raise_fresh, raise_flag}
use Rattle.event_queue.proofs.events.Events.raise.Goals as goal

pub returns-then-event : goal.returns-then-event
returns-then-event c = raise_again c.args.self.now c.args.place c.args.event c.whole.ensures c.requires c.if-event.true

pub index_mut-requires : goal.index_mut-requires
index_mut-requires c = let k = get_below c.args.place c.self.inside.events.items c.args.event (ap (λ (s : EventList). slice_get s.events c.args.place) c.self.view_is ∙ c.requires) in omega (arith, k)

pub push_reserved-requires : goal.push_reserved-requires
push_reserved-requires c =
    let here = ap (λ (s : EventList). slice_get s.events c.args.place) c.self.view_is ∙ c.requires in
    let k = raise_room _ c.args.place c.args.event c.self.invariant.0 here c.if-event.false (sym c.is_signal.ensures ∙ c.if-is_signal.true) in
    let l = c.self.invariant.2 in
    omega (arith, k, l)

pub invariant_of-self : goal.invariant_of-self
invariant_of-self c =
    let here = ap (λ (s : EventList). slice_get s.events c.args.place) c.self.view_is ∙ c.requires in
    let l = c.self.invariant.2 in
    let k = c.push_reserved.ensures.capacity in (
      rw (c.push_reserved.ensures.items, c.entry.ensures) (raise_whole _ c.args.place c.args.event c.self.invariant.0 here c.if-event.false (sym c.is_signal.ensures ∙ c.if-is_signal.true)),
      c.self.invariant.1,
      omega (arith, k, l),
      top_pushed c.self.inside.queue.items _ c.entry.result c.self.inside.top c.max-self-inside.result c.push_reserved.ensures.items c.self.invariant.3 (c.max-self-inside.ensures ∙ ap (λ (x : Entry). max c.self.inside.top x.tpl) (sym c.entry.ensures)),
      c.self.invariant.4 ∙ sym (due_set c.args.place c.self.inside.events.items c.args.event (raised c.args.event) here refl),
    )

pub invariant_of-self-else-is_signal : goal.invariant_of-self-else-is_signal
invariant_of-self-else-is_signal c =
    let here = ap (λ (s : EventList). slice_get s.events c.args.place) c.self.view_is ∙ c.requires in
    (raise_set_whole _ c.args.place c.args.event c.self.invariant.0 here, c.self.invariant.1, c.self.invariant.2, c.self.invariant.3, c.self.invariant.4 ∙ sym (due_set c.args.place c.self.inside.events.items c.args.event (raised c.args.event) here refl))

pub returns-then-is_signal : goal.returns-then-is_signal
returns-then-is_signal c =
    let here = ap (λ (s : EventList). slice_get s.events c.args.place) c.self.view_is ∙ c.requires in
    rw (c.push_reserved.ensures.items, c.entry.ensures) (raise_fresh _ c.args.place c.args.event c.self.invariant.0 here c.if-event.false (sym c.is_signal.ensures ∙ c.if-is_signal.true) ∙ ap (λ s. raise_one s c.args.event.number) c.self.view_is)

pub returns-else-is_signal : goal.returns-else-is_signal
returns-else-is_signal c =
    let here = ap (λ (s : EventList). slice_get s.events c.args.place) c.self.view_is ∙ c.requires in
    raise_flag _ c.args.place c.args.event c.self.invariant.0 here (sym c.is_signal.ensures ∙ c.if-is_signal.false) ∙ ap (λ s. raise_one s c.args.event.number) c.self.view_is
