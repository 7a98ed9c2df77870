use Rattle.std.proofs.Common.{◌≡◌, ◌-◌}
use Rattle.address_view.specs.Windows.{see}
use Rattle.event_services.specs.Waits.{events_seen, judged}
use Rattle.event_services.proofs.wait.judge.Given as goal

abbrev pub invariant-loop-place : goal.invariant-loop-place
invariant-loop-place l =
    judged l.place (events_seen (see l.view) l.memory l.at (l.count - l.place)) l.events ≡ judged 0 (events_seen (see l.view) l.memory l.list l.count) l.fn.events
