use Rattle.std.proofs.Common.{◌∙◌}
use Rattle.event_queue.proofs.Wholes.{is_known}
use Rattle.event_queue.proofs.events.Events.is_event.Goals as goal

pub returns : goal.returns
returns c = c.is_some.ensures ∙ is_known c.args.self.now.events c.args.event c.find.result c.find.ensures.none c.find.ensures.event
