use Rattle.std.proofs.Common.{sym}
use Rattle.event_services.proofs.wait.pass.Goals as goal

pub returns-in-Some-clause-later : goal.returns-in-Some-clause-later
returns-in-Some-clause-later c = (c.next_moment_is_due.ensures c.args.events.now c.args.moment.now c.in-Some.next (sym c.in-Some.ensures)).from
