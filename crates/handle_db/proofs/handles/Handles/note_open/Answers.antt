use Rattle.std.proofs.Common.{sym, ◌∙◌}
use Rattle.handle_db.proofs.DatabaseLemmas.{no_open, handle_none}
use Rattle.handle_db.proofs.handles.Handles.note_open.Goals as goal

pub returns-in-None-clause-ok : goal.returns-in-None-clause-ok
returns-in-None-clause-ok c = no_open c.args.entry c.args.guid.now c.args.self.now c.args.handle (handle_none c.args.self.now c.args.handle (sym c.place.ensures.place ∙ c.in-None.is))
