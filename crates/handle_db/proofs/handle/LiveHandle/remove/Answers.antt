use Rattle.std.proofs.Common.{rules}
use Rattle.std.proofs.lemmas.Fn.{filter_same}
use Rattle.handle_db.specs.Database.{all_but}
use Rattle.handle_db.proofs.ViewLemmas.{handle_with}
use Rattle.handle_db.proofs.handle.LiveHandle.remove.Goals as goal

pub returns : goal.returns
returns c = handle_with (all_but c.args.guid.now) _ _ _ _ c.self.view_is (filter_same _ _ _ (λ x b f' k. search rules) _ _ c.retain.ensures.filtered)
