use Rattle.std.proofs.Common.{◌∙◌, sym, ap, arith}
use Rattle.event_queue.specs.Queue.{EventList}
use Rattle.event_queue.specs.Timers.{ticked, all_rewound, due_events}
use Rattle.event_queue.proofs.Caches.{calm_tick}
use Rattle.event_queue.proofs.Signals.{signals_last}
use Rattle.event_queue.proofs.events.Events.make_tick.Goals as goal

pub returns-then-has_due : goal.returns-then-has_due
unfolding ticked
returns-then-has_due c = c.rewind.ensures ∙ ap (all_rewound c.args.present) c.signal_due.ensures

pub returns-else-has_due : goal.returns-else-has_due
returns-else-has_due c = c.pass.ensures ∙ sym (calm_tick c.args.self.now c.args.present (sym c.has_due.ensures ∙ c.if-has_due.false))

pub rewind-requires : goal.rewind-requires
rewind-requires c =
    let same = ap (λ (s : EventList). s.last_tick) c.signal_due.ensures ∙ signals_last (due_events c.args.present c.args.self.now.events) c.args.self.now in
    let r = c.requires in
    omega (arith, same, r)
