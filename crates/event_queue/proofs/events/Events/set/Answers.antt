use Rattle.std.proofs.Common.{◌∙◌, ap, arith}
use Rattle.std.specs.Prelude.{slice_get}
use Rattle.event_queue.specs.Queue.{EventList}
use Rattle.event_queue.specs.Timers.{with_timer}
use Rattle.event_queue.proofs.Wholes.{get_below, set_is, timer_whole}
use Rattle.event_queue.proofs.events.Events.set.Goals as goal

pub index_mut-requires : goal.index_mut-requires
index_mut-requires c = let k = get_below c.args.place c.self.inside.events.items c.args.event (ap (λ (s : EventList). slice_get s.events c.args.place) c.self.view_is ∙ c.requires) in omega (arith, k)

pub invariant_of-self : goal.invariant_of-self
invariant_of-self c =
    (timer_whole _ c.args.place c.args.event c.args.timer c.self.invariant.0 (ap (λ (s : EventList). slice_get s.events c.args.place) c.self.view_is ∙ c.requires), c.self.invariant.1, c.self.invariant.2, c.self.invariant.3, (cc))

pub returns : goal.returns
returns c =
    set_is _ c.args.place c.args.event c.args.timer c.self.invariant.0 (ap (λ (s : EventList). slice_get s.events c.args.place) c.self.view_is ∙ c.requires) ∙ ap (λ s. with_timer s c.args.event.number c.args.timer) c.self.view_is
