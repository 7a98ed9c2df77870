use Rattle.std.proofs.Common.{◌<◌, length, ◌∙◌, ap}
use Rattle.variable_store.specs.Sets.{changed_at, written}
use Rattle.variable_store.proofs.EditLemmas.{set_is, changed_within, changed_valid}
use Rattle.variable_store.proofs.variables.Variables.change.Goals as goal

pub cost-after-requires : goal.cost-after-requires
cost-after-requires c =
    let inside : c.args.index < length c.self.inside.entries.items = rw c.self.view_is c.requires.inside in
    changed_within c.self.inside.entries.items c.args.self.now c.args.attributes c.args.bytes.now c.args.index c.index_mut-variable.result.now _ c.self.view_is inside c.index_mut-variable.ensures.value c.in_ok-write.ensures.ok c.requires.valid

pub invariant_of-self-2 : goal.invariant_of-self-2
invariant_of-self-2 c =
    let inside : c.args.index < length c.self.inside.entries.items = rw c.self.view_is c.requires.inside in
    changed_valid c.self.inside.entries.items c.args.self.now c.args.attributes c.args.bytes.now c.args.index c.self.inside.used _ _ c.index_mut-variable.result.now _ c.self.view_is inside c.index_mut-variable.ensures.value c.in_ok-write.ensures.ok c.requires.valid
    c.self.invariant.1 c.cost-before.ensures c.cost-after.ensures

pub returns-clause-ok : goal.returns-clause-ok
returns-clause-ok c =
    let inside : c.args.index < length c.self.inside.entries.items = rw c.self.view_is c.requires.inside in
    set_is (written c.args.attributes c.args.bytes.now) c.self.inside.entries.items c.args.index c.index_mut-variable.result.now _ inside c.index_mut-variable.ensures.value c.in_ok-write.ensures.ok
    ∙ ap (λ entries. changed_at (written c.args.attributes c.args.bytes.now) entries c.args.index) c.self.view_is
