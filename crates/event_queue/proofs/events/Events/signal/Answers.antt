use Rattle.event_queue.proofs.Wholes.{known_none, known_some}
use Rattle.event_queue.proofs.events.Events.signal.Goals as goal

pub returns-in-Some-clause-answer : goal.returns-in-Some-clause-answer
returns-in-Some-clause-answer c = known_some c.args.self.now c.args.event c.in-Some.found c.in-Some.ensures.event

pub returns-in-None-clause-answer : goal.returns-in-None-clause-answer
returns-in-None-clause-answer c = known_none c.args.self.now c.args.event c.in-None.ensures.none
