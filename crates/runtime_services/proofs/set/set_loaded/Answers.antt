use Rattle.std.proofs.Common.{◌∙◌}
use Rattle.address_view.specs.Windows.{see}
use Rattle.variable_store.specs.declared.refusal.VarRefusal.TheVariants.{Invalid, Unsupported, NotFound, WriteProtected, Full}
use Rattle.runtime_services.proofs.SetLemmas.{set_refused}
use Rattle.runtime_services.proofs.set.set_loaded.Goals as goal

pub returns-in-Err-Invalid-clause-ok : goal.returns-in-Err-Invalid-clause-ok
returns-in-Err-Invalid-clause-ok c =
    set_refused (see c.args.view.now) c.args.memory.now c.args.variables.now c.args.gone c.args.name.now c.args.vendor.now c.args.given c.as_slice.result.now (c.as_slice.ensures.value ∙ c.in_ok-bytes.ensures)
    Invalid c.set.new.self (rw c.in-Err-Invalid.field-0-is at c.in-Err-Invalid.ensures)

pub returns-in-Err-Unsupported-clause-ok : goal.returns-in-Err-Unsupported-clause-ok
returns-in-Err-Unsupported-clause-ok c =
    set_refused (see c.args.view.now) c.args.memory.now c.args.variables.now c.args.gone c.args.name.now c.args.vendor.now c.args.given c.as_slice.result.now (c.as_slice.ensures.value ∙ c.in_ok-bytes.ensures)
    Unsupported c.set.new.self (rw c.in-Err-Unsupported.field-0-is at c.in-Err-Unsupported.ensures)

pub returns-in-Err-NotFound-clause-ok : goal.returns-in-Err-NotFound-clause-ok
returns-in-Err-NotFound-clause-ok c =
    set_refused (see c.args.view.now) c.args.memory.now c.args.variables.now c.args.gone c.args.name.now c.args.vendor.now c.args.given c.as_slice.result.now (c.as_slice.ensures.value ∙ c.in_ok-bytes.ensures)
    NotFound c.set.new.self (rw c.in-Err-NotFound.field-0-is at c.in-Err-NotFound.ensures)

pub returns-in-Err-WriteProtected-clause-ok : goal.returns-in-Err-WriteProtected-clause-ok
returns-in-Err-WriteProtected-clause-ok c =
    set_refused (see c.args.view.now) c.args.memory.now c.args.variables.now c.args.gone c.args.name.now c.args.vendor.now c.args.given c.as_slice.result.now (c.as_slice.ensures.value ∙ c.in_ok-bytes.ensures)
    WriteProtected c.set.new.self (rw c.in-Err-WriteProtected.field-0-is at c.in-Err-WriteProtected.ensures)

pub returns-clause-ok : goal.returns-clause-ok
returns-clause-ok c =
    set_refused (see c.args.view.now) c.args.memory.now c.args.variables.now c.args.gone c.args.name.now c.args.vendor.now c.args.given c.as_slice.result.now (c.as_slice.ensures.value ∙ c.in_ok-bytes.ensures)
    Full c.set.new.self (rw c.in-Err-Full.field-0-is at c.in-Err-Full.ensures)
