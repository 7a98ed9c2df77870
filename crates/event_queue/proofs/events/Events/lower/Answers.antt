use Rattle.std.proofs.Common.{◌∙◌, sym, ap, arith, refl}
use Rattle.std.specs.Prelude.{slice_get}
use Rattle.event_queue.specs.Queue.{EventList, lowered, lower_one}
use Rattle.event_queue.proofs.Caches.{due_set}
use Rattle.event_queue.proofs.Wholes.{get_below, lower_is, lower_whole}
use Rattle.event_queue.proofs.events.Events.lower.Goals as goal

pub index_mut-requires : goal.index_mut-requires
index_mut-requires c = let k = get_below c.args.place c.self.inside.events.items c.args.event (ap (λ (s : EventList). slice_get s.events c.args.place) c.self.view_is ∙ c.requires.event) in omega (arith, k)

pub invariant_of-self : goal.invariant_of-self
invariant_of-self c =
    (lower_whole _ c.args.place c.args.event c.self.invariant.0 (ap (λ (s : EventList). slice_get s.events c.args.place) c.self.view_is ∙ c.requires.event) c.requires.kind, c.self.invariant.1, c.self.invariant.2, c.self.invariant.3, c.self.invariant.4 ∙ sym (due_set c.args.place c.self.inside.events.items c.args.event (lowered c.args.event) (ap (λ (s : EventList). slice_get s.events c.args.place) c.self.view_is ∙ c.requires.event) refl))

pub returns : goal.returns
returns c =
    lower_is _ c.args.place c.args.event c.self.invariant.0 (ap (λ (s : EventList). slice_get s.events c.args.place) c.self.view_is ∙ c.requires.event) ∙ ap (λ s. lower_one s c.args.event.number) c.self.view_is
