use Rattle.std.proofs.Common.{◌<◌, length}
use Rattle.variable_store.proofs.EditLemmas.{removed}
use Rattle.variable_store.proofs.variables.Variables.remove.Goals as goal

pub invariant_of-self : goal.invariant_of-self
invariant_of-self c =
    let inside : c.args.index < length c.self.inside.entries.items = rw c.self.view_is c.requires in
    rw c.remove-variable.ensures.items
    (removed c.self.inside.entries.items c.args.index c.self.inside.used c.cost.result c.remove-variable.result c.self.invariant.0 c.self.invariant.1 inside c.remove-variable.ensures.value c.cost.ensures)
