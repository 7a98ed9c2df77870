use Rattle.std.proofs.Common.{◌∙◌, ap, max, ◌+◌}
use Rattle.event_queue.specs.Timers.{Ticks, reached, first_moment}
use Rattle.event_queue.proofs.Moments.{none_beyond}
use Rattle.event_queue.proofs.ticks.TickMoments.from.Goals as goal

pub returns-in-None : goal.returns-in-None
returns-in-None c =
    none_beyond c.self.inside.listed.items c.self.inside.last c.args.low c.in-None.ensures ∙ ap (λ (t : Ticks). reached (first_moment t.listed (max (t.last + 1) c.args.low))) c.self.view_is
