use Rattle.std.proofs.Common.{sym, ◌∙◌}
use Rattle.handle_db.specs.Database.{closed}
use Rattle.handle_db.proofs.DatabaseLemmas.{opens_gone, handle_none}
use Rattle.handle_db.proofs.handles.Handles.close_opens.Goals as goal

pub returns-in_default : goal.returns-in_default
returns-in_default c = sym (opens_gone (closed c.args.agent c.args.controller) c.args.guid.now c.args.self.now c.args.handle (handle_none c.args.self.now c.args.handle (sym c.place.ensures.place ∙ c.in_default.is)))
