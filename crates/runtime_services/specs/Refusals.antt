-- The statuses of refusals (UEFI 2.10, section 8.2).
use Rattle.std.specs.Prelude.{ℕ}
use Rattle.uh_base.specs.Statuses.{invalid_parameter, unsupported, write_protected, out_of_resources, not_found}
use Rattle.variable_store.specs.declared.refusal.VarRefusal.{VarRefusal}
use Rattle.variable_store.specs.declared.refusal.VarRefusal.TheVariants as refusals

-- the status of a refusal
abbrev pub variable_status : VarRefusal → ℕ
variable_status refusals.Invalid = invalid_parameter
variable_status refusals.Unsupported = unsupported
variable_status refusals.NotFound = not_found
variable_status refusals.WriteProtected = write_protected
variable_status refusals.Full = out_of_resources
variable_status refusals.Memory = out_of_resources
