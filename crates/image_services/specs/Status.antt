-- The status of a refusal (UEFI 2.10, 7.4: LoadImage).
use Rattle.std.specs.Prelude.{ℕ}
use Rattle.uh_base.specs.Statuses.{load_error, unsupported, out_of_resources}
use Rattle.pe_image.specs.declared.fault.PeFault.{PeFault}
use Rattle.pe_image.specs.declared.fault.PeFault.TheVariants as faults
use Rattle.image_services.specs.declared.refusal.LoadRefusal.{LoadRefusal}
use Rattle.image_services.specs.declared.refusal.LoadRefusal.TheVariants as refusals

-- A machine or a subsystem that isn't run here is unsupported; any other fault of the file is an error of loading.
abbrev pub pe_status : PeFault → ℕ
pe_status faults.Machine = unsupported
pe_status faults.Subsystem = unsupported
pe_status fault = load_error

abbrev pub load_status : LoadRefusal → ℕ
load_status refusals.TooMany = out_of_resources
load_status (refusals.Pe fault) = pe_status fault
load_status (refusals.Reloc fault) = load_error
load_status refusals.Placed = load_error
load_status refusals.NoPages = out_of_resources
load_status refusals.Full = out_of_resources
load_status refusals.Frames = out_of_resources
load_status refusals.Memory = out_of_resources
