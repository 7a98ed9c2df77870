use Rattle.std.proofs.Common.{◌∙◌, ap, arith}
use Rattle.std.specs.Prelude.{slice_get}
use Rattle.event_queue.specs.Queue.{EventList, without}
use Rattle.event_queue.proofs.Wholes.{get_below, without_whole, without_is}
use Rattle.event_queue.proofs.events.Events.remove.Goals as goal

pub unqueue-requires : goal.unqueue-requires
unqueue-requires c = c.self.invariant.0.once

pub remove-requires : goal.remove-requires
remove-requires c = let k = get_below c.args.place c.self.inside.events.items c.args.event (ap (λ (s : EventList). slice_get s.events c.args.place) c.self.view_is ∙ c.requires) in omega (arith, k)

pub invariant_of-self : goal.invariant_of-self
invariant_of-self c =
    let here = ap (λ (s : EventList). slice_get s.events c.args.place) c.self.view_is ∙ c.requires in
    let k = c.remove.ensures.capacity in
    let l = c.unqueue.ensures.capacity in
    let m = c.self.invariant.1 in
    let n = c.self.invariant.2 in (
      rw (c.remove.ensures.items, c.unqueue.ensures.items) (without_whole _ c.args.place c.args.event c.self.invariant.0 here),
      omega (arith, k, m),
      omega (arith, l, n),
      (cc),
      (cc),
    )

pub returns : goal.returns
returns c =
    let here = ap (λ (s : EventList). slice_get s.events c.args.place) c.self.view_is ∙ c.requires in
    rw (c.remove.ensures.items, c.unqueue.ensures.items) (without_is _ c.args.place c.args.event c.self.invariant.0 here ∙ ap (λ s. without s c.args.event.number) c.self.view_is)
