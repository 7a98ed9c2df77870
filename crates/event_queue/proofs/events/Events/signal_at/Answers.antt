use Rattle.std.proofs.Common.{◌∙◌}
use Rattle.event_queue.proofs.Signals.{signal_alone, signal_group_of}
use Rattle.event_queue.proofs.events.Events.signal_at.Goals as goal

pub returns-in-Some : goal.returns-in-Some
returns-in-Some c = c.signal_group.ensures ∙ signal_group_of c.args.self.now c.raise.new.self c.args.place c.args.first c.in-Some.group c.whole.ensures c.requires c.in-Some.is c.raise.ensures

pub returns-in_default : goal.returns-in_default
returns-in_default c = c.raise.ensures ∙ signal_alone c.args.self.now c.args.place c.args.first c.whole.ensures c.requires c.in_default.is
