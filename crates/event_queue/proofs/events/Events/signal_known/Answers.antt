use Rattle.event_queue.proofs.Signals.{unknown_signalled}
use Rattle.event_queue.proofs.events.Events.signal_known.Goals as goal

pub returns-in_default : goal.returns-in_default
returns-in_default c = unknown_signalled c.args.self.now c.args.event c.in_default.ensures.none
