use Rattle.std.proofs.Common.{ap, Err}
use Rattle.host_engine.proofs.GivesLemmas.{unread, long}
use Rattle.host_engine.proofs.refusal.read_file.Goals as goal

pub returns-in-Failed-clause-refused : goal.returns-in-Failed-clause-refused
returns-in-Failed-clause-refused g c = λ next told' out p. unread _ next _ told' _ _ _ _ _ out p c.in-Ok-new.ensures (c.in-Err.ensures.failed (ap Err c.in-Failed.is))

pub returns-in-TooLong-clause-refused : goal.returns-in-TooLong-clause-refused
returns-in-TooLong-clause-refused g c = λ next told' out p. long _ next _ told' _ _ _ _ _ out p c.in-Ok-new.ensures (c.in-Err.ensures.too_long (ap Err c.in-TooLong.is)) (c.in-Err.ensures.longer (ap Err c.in-TooLong.is))
