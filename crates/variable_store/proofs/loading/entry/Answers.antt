use Rattle.std.proofs.Common.{◌≡◌, subst, sym, ap, ◌∙◌, false}
use Rattle.std.specs.Prelude.{is_some, ◌^◌}
use Rattle.variable_store.specs.Entries.{place_of}
use Rattle.variable_store.specs.Valid.{AreBelow}
use Rattle.variable_store.specs.Reading.{IsHeader}
use Rattle.variable_store.proofs.LoadLemmas.{loaded_valid}
use Rattle.variable_store.proofs.loading.entry.Goals as goal

pub returns-clause-valid : goal.returns-clause-valid
returns-clause-valid c =
    let none : is_some (place_of c.args.before.now c.in_ok-name.name.items c.in_ok-first.first.vendor false) ≡ false =
    rw (← c.deref.ensures.value) (sym (c.is_some.ensures ∙ ap is_some c.find.ensures.place) ∙ c.if-is_some.false) in
    loaded_valid c.args.before.now c.in_ok-first.first c.in_ok-units.units.now c.in_ok-name.name.items c.in_ok-data.data.items c.whole.ensures
    (subst (IsHeader c.in_ok-first.first) c.room.ensures c.in_ok-first.ensures.limits) c.in_ok-units.ensures.length c.in_ok-name.ensures none
    (subst (AreBelow (2 ^ 16)) c.deref-2.ensures.value c.units_fit.ensures) (rw c.in_ok-data.ensures.items c.in_ok-bytes.ensures.length) (rw c.in_ok-data.ensures.items c.bytes_fit.ensures)
