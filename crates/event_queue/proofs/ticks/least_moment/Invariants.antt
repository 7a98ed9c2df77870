use Rattle.std.proofs.Common.{◌≡◌, drop}
use Rattle.event_queue.specs.Timers.{lesser, reached, first_moment}
use Rattle.event_queue.proofs.ticks.least_moment.Given as goal

abbrev pub invariant-loop-moment : goal.invariant-loop-moment
invariant-loop-moment l = lesser l.least (reached (first_moment (drop l.moment-index l.listed) l.low)) ≡ reached (first_moment l.listed l.low)
