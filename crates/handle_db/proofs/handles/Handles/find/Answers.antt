use Rattle.std.proofs.Common.{sym, ◌∙◌}
use Rattle.handle_db.proofs.DatabaseLemmas.{handle_none, read_some}
use Rattle.handle_db.proofs.handles.Handles.find.Goals as goal

pub returns-in-None : goal.returns-in-None
returns-in-None c = sym (handle_none c.args.self.now c.args.handle (sym c.position.ensures ∙ c.in-None.is))

pub returns-in-Some : goal.returns-in-Some
returns-in-Some c =
    sym (read_some c.args.self.now c.args.handle c.in-Some.place c.self.inside.live.items c.self.inside.made c.index.result.now c.self.view_is (sym c.position.ensures ∙ c.in-Some.is) c.index.ensures)
