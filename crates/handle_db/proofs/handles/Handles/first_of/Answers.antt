use Rattle.std.proofs.Common.{◌∙◌, ap, Some}
use Rattle.std.specs.Option.{option_map}
use Rattle.handle_db.specs.Database.{Handle}
use Rattle.handle_db.proofs.AllLemmas.{first_there}
use Rattle.handle_db.proofs.handles.Handles.first_of.Goals as goal

pub returns-in-None : goal.returns-in-None
returns-in-None c = ap (λ o. option_map (λ (h : Handle). h.number) o) c.in-None.ensures ∙ first_there c.args.self.now c.args.guid.now

pub returns-in-Some : goal.returns-in-Some
returns-in-Some c = ap Some c.number.ensures ∙ ap (λ o. option_map (λ (h : Handle). h.number) o) c.in-Some.ensures ∙ first_there c.args.self.now c.args.guid.now
