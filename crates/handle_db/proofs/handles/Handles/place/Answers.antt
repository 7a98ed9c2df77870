use Rattle.handle_db.proofs.DatabaseLemmas.{place_none, place_some}
use Rattle.handle_db.proofs.handles.Handles.place.Goals as goal

pub returns-clause-none : goal.returns-clause-none
returns-clause-none c = place_none c.args.self.now c.args.handle c.position.result c.position.ensures

pub returns-clause-some : goal.returns-clause-some
returns-clause-some c = place_some c.args.self.now c.args.handle c.position.result c.position.ensures
