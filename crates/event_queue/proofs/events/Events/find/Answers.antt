use Rattle.std.proofs.Common.{◌∙◌, sym, ap, arith}
use Rattle.std.specs.Prelude.{slice_get}
use Rattle.event_queue.specs.Queue.{EventList, event_at, shown}
use Rattle.event_queue.proofs.Search.{numbers_rise, found_none, found_below, found_some}
use Rattle.event_queue.proofs.events.Events.find.Goals as goal

pub place_of-requires : goal.place_of-requires
place_of-requires c = rw c.as_slice.ensures.value (numbers_rise 8 (shown c.self.inside.made) c.self.inside.events.items c.self.invariant.0.rising)

pub index-requires : goal.index-requires
index-requires c =
    let k = found_below c.self.inside.events.items c.as_slice.result.now c.args.number c.in-Some.place c.as_slice.ensures.value (sym c.in-Some.is ∙ c.place_of.ensures) in
    omega (arith, k)

pub returns-in-Some-clause-some : goal.returns-in-Some-clause-some
returns-in-Some-clause-some c =
    ap (λ (s : EventList). slice_get s.events c.in-Some.place) (sym c.self.view_is)
    ∙ (found_some 8 _ c.self.inside.events.items c.as_slice.result.now c.args.number c.in-Some.place c.index.result.now c.self.invariant.0.rising c.as_slice.ensures.value (sym c.in-Some.is ∙ c.place_of.ensures) c.index.ensures).here

pub returns-in-Some-clause-event : goal.returns-in-Some-clause-event
returns-in-Some-clause-event c =
    ap (λ (s : EventList). event_at s.events c.args.number) (sym c.self.view_is)
    ∙ (found_some 8 _ c.self.inside.events.items c.as_slice.result.now c.args.number c.in-Some.place c.index.result.now c.self.invariant.0.rising c.as_slice.ensures.value (sym c.in-Some.is ∙ c.place_of.ensures) c.index.ensures).event

pub returns-in-Some-clause-number : goal.returns-in-Some-clause-number
returns-in-Some-clause-number c =
    (found_some 8 _ c.self.inside.events.items c.as_slice.result.now c.args.number c.in-Some.place c.index.result.now c.self.invariant.0.rising c.as_slice.ensures.value (sym c.in-Some.is ∙ c.place_of.ensures) c.index.ensures).number

pub returns-in-None-clause-none : goal.returns-in-None-clause-none
returns-in-None-clause-none c =
    ap (λ (s : EventList). event_at s.events c.args.number) (sym c.self.view_is) ∙ found_none c.self.inside.events.items c.as_slice.result.now c.args.number c.as_slice.ensures.value (sym c.in-None.is ∙ c.place_of.ensures)
