use Rattle.std.proofs.Common.{sym, ◌∙◌}
use Rattle.handle_db.proofs.DatabaseLemmas.{has_there}
use Rattle.handle_db.proofs.handles.Handles.replace.Goals as goal

pub renew-requires-clause-has : goal.renew-requires-clause-has
renew-requires-clause-has c = has_there c.args.self.now c.args.handle c.in-Some.place c.args.guid.now c.args.old c.self.inside.live.items c.self.inside.made c.index.result.now c.has_interface.result c.self.view_is (sym c.place.ensures.place ∙ c.in-Some.is) c.index.ensures c.has_interface.ensures c.if-not-has_interface.false
