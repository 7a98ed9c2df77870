-- InstallMultipleProtocolInterfaces and UninstallMultipleProtocolInterfaces (UEFI 2.10, sections 7.3.17 and 7.3.18), where
-- `see` is the place that each address shows and `x` are the registers of the call.
use Rattle.std.specs.Prelude.{ℕ, List, [], ◌∷◌, Option, Some, None, Result, Ok, Err, if◌then◌else◌}
use Rattle.uh_base.specs.declared.guid.Guid.{Guid}
use Rattle.uh_base.specs.Statuses.{success}
use Rattle.guest_memory.specs.Pages.{Pages}
use Rattle.guest_call.specs.Arguments.{argument}
use Rattle.guest_call.specs.Checks.{can_write, number_seen}
use Rattle.service_answer.specs.Answers.{announces}
use Rattle.protocol_db.specs.Registrations.{Protocols}
use Rattle.protocol_db.specs.Calls.{Done, InstallationOfAll, installation_of_all, uninstallation_of_all}
use Rattle.protocol_db.specs.declared.refusal.ProtocolRefusal.{ProtocolRefusal}
use Rattle.protocol_services.specs.Refusals.{protocol_status}
use Rattle.protocol_services.specs.Outputs.{ProtocolDone, invalid, refused, number_and}
use Rattle.protocol_services.specs.Installing.{handle_asked}
use Rattle.protocol_services.specs.Pairs.{pairs_of}

-- a handle as it is written, 0 for none
abbrev pub handle_written : Option ℕ → ℕ
handle_written None = 0
handle_written (Some number) = number

-- The handle is written, and the events of the registrations for the protocols are signalled.
abbrev pub all_installed : (ℕ → Option ℕ) → Pages → Protocols → ℕ → Result (Done InstallationOfAll) ProtocolRefusal → ProtocolDone
all_installed see m p at (Ok done) = number_and see m p at 8 (handle_written done.answer.handle) (announces success done.answer.events) done.after
all_installed see m p at (Err refusal) = refused m p (protocol_status refusal)

-- Without a pair nothing changes, whatever the handle is.
abbrev pub pairs_installed : (ℕ → Option ℕ) → Pages → Protocols → ℕ → Option (List (Guid × ℕ)) → ProtocolDone
pairs_installed see m p at None = invalid m p
pairs_installed see m p at (Some []) = refused m p success
pairs_installed see m p at (Some (pair ∷ pairs)) = all_installed see m p at (installation_of_all p (handle_asked (number_seen see m at 8)) (pair ∷ pairs))

-- InstallMultipleProtocolInterfaces(*handle8, pairs, 0)
unfoldable pub install_multiple_protocol_interfaces : List ℕ → (ℕ → Option ℕ) → Pages → Protocols → ProtocolDone
install_multiple_protocol_interfaces x see m p = if can_write see m (argument 0 x) 8 then pairs_installed see m p (argument 0 x) (pairs_of x see m) else invalid m p

-- A pair that is refused makes the call invalid, whatever its own status is.
abbrev pub all_uninstalled : Pages → Protocols → Result Protocols ProtocolRefusal → ProtocolDone
all_uninstalled m p (Ok new) = refused m new success
all_uninstalled m p (Err refusal) = invalid m p

abbrev pub pairs_uninstalled : Pages → Protocols → ℕ → Option (List (Guid × ℕ)) → ProtocolDone
pairs_uninstalled m p number None = invalid m p
pairs_uninstalled m p number (Some pairs) = all_uninstalled m p (uninstallation_of_all p number pairs)

-- UninstallMultipleProtocolInterfaces(handle, pairs, 0)
unfoldable pub uninstall_multiple_protocol_interfaces : List ℕ → (ℕ → Option ℕ) → Pages → Protocols → ProtocolDone
uninstall_multiple_protocol_interfaces x see m p = pairs_uninstalled m p (argument 0 x) (pairs_of x see m)
