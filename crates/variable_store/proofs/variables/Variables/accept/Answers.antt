use Rattle.std.proofs.Common.{sym, ◌∙◌}
use Rattle.std.specs.Prelude.{Some, None}
use Rattle.variable_store.proofs.SetLemmas.{below_all, set_is_nothing, set_removes, set_writes, changes, adds, set_to}
use Rattle.variable_store.proofs.variables.Variables.accept.Goals as goal

pub returns-then-is_nothing-clause-ok : goal.returns-then-is_nothing-clause-ok
returns-then-is_nothing-clause-ok c =
    set_is_nothing c.args.self.now c.args.name.now c.args.vendor.now c.args.attributes c.args.bytes.now c.args.runtime c.whole.ensures c.requires.free (sym c.is_nothing.ensures ∙ c.if-is_nothing.true)

pub returns-in-Some-clause-ok : goal.returns-in-Some-clause-ok
returns-in-Some-clause-ok c =
    rw c.remove.ensures
    (set_removes c.args.self.now c.args.name.now c.args.vendor.now c.args.attributes c.args.bytes.now c.args.runtime c.whole.ensures c.requires.free (Some c.in-Some.index) (sym c.in-Some.is ∙ c.requires.place)
    (sym c.is_nothing.ensures ∙ c.if-is_nothing.false) (sym c.is_removal.ensures ∙ c.if-is_removal.true))

pub returns-in-None-clause-ok : goal.returns-in-None-clause-ok
returns-in-None-clause-ok c =
    set_removes c.args.self.now c.args.name.now c.args.vendor.now c.args.attributes c.args.bytes.now c.args.runtime c.whole.ensures c.requires.free None (sym c.in-None.is ∙ c.requires.place)
    (sym c.is_nothing.ensures ∙ c.if-is_nothing.false) (sym c.is_removal.ensures ∙ c.if-is_removal.true)

pub change-requires-clause-valid : goal.change-requires-clause-valid
change-requires-clause-valid c =
    changes c.args.self.now c.args.name.now c.args.vendor.now c.args.attributes c.args.bytes.now c.args.runtime c.whole.ensures c.requires.free
    (sym c.is_nothing.ensures ∙ c.if-is_nothing.false) (sym c.is_removal.ensures ∙ c.if-is_removal.false) (below_all _ _ (λ i. (c.type_inv.bytes i).fits)) c.in-Some-place.index (sym c.in-Some-place.is ∙ c.requires.place) (rw c.in-Some-place.is at c.requires.inside)

pub returns-in-Some-place-clause-ok : goal.returns-in-Some-place-clause-ok
returns-in-Some-place-clause-ok c =
    set_to c.change.result _ _ _
    (set_writes c.args.self.now c.args.name.now c.args.vendor.now c.args.attributes c.args.bytes.now c.args.runtime c.whole.ensures c.requires.free (Some c.in-Some-place.index) (sym c.in-Some-place.is ∙ c.requires.place)
    (sym c.is_nothing.ensures ∙ c.if-is_nothing.false) (sym c.is_removal.ensures ∙ c.if-is_removal.false)) c.change.ensures.ok

pub returns-in-None-place-clause-ok : goal.returns-in-None-place-clause-ok
returns-in-None-place-clause-ok c =
    set_to c.add.result _ _ _
    (set_writes c.args.self.now c.args.name.now c.args.vendor.now c.args.attributes c.args.bytes.now c.args.runtime c.whole.ensures c.requires.free None (sym c.in-None-place.is ∙ c.requires.place)
    (sym c.is_nothing.ensures ∙ c.if-is_nothing.false) (sym c.is_removal.ensures ∙ c.if-is_removal.false)) c.add.ensures.ok

pub add-requires : goal.add-requires
add-requires c =
    adds c.args.self.now c.args.name.now c.args.vendor.now c.args.attributes c.args.bytes.now c.args.runtime c.whole.ensures c.requires.free
    (sym c.is_nothing.ensures ∙ c.if-is_nothing.false) (sym c.is_removal.ensures ∙ c.if-is_removal.false) (below_all _ _ (λ i. (c.type_inv.bytes i).fits)) (sym c.in-None-place.is ∙ c.requires.place) c.fits.ensures (below_all _ _ (λ i. (c.type_inv.name i).fits))
