-- The services that install protocol interfaces and take them away (UEFI 2.10, sections 7.3.2 to 7.3.4), where `see` is the
-- place that each address shows and `x` are the registers of the call.
use Rattle.std.specs.Prelude.{ℕ, ◌==◌, ◌&&◌, List, Option, Some, None, Result, Ok, Err, if◌then◌else◌}
use Rattle.uh_base.specs.Statuses.{success}
use Rattle.guest_memory.specs.Pages.{Pages}
use Rattle.guest_call.specs.Arguments.{argument, low_word}
use Rattle.guest_call.specs.Checks.{can_read, can_write, number_seen}
use Rattle.guest_call.specs.Inputs.{guid_seen}
use Rattle.service_answer.specs.Answers.{announces}
use Rattle.protocol_db.specs.Registrations.{Protocols}
use Rattle.protocol_db.specs.Calls.{Done, Installation, installation, reinstallation, uninstallation}
use Rattle.protocol_db.specs.declared.refusal.ProtocolRefusal.{ProtocolRefusal}
use Rattle.protocol_services.specs.Refusals.{protocol_status}
use Rattle.protocol_services.specs.Outputs.{ProtocolDone, invalid, refused, number_and}

-- the handle on which an interface is to be installed, a new one for 0
abbrev pub handle_asked : ℕ → Option ℕ
handle_asked number = if number == 0 then None else Some number

-- The handle is written, and the events of the registrations for the protocol are signalled.
abbrev pub installed : (ℕ → Option ℕ) → Pages → Protocols → ℕ → Result (Done Installation) ProtocolRefusal → ProtocolDone
installed see m p at (Ok done) = number_and see m p at 8 done.answer.handle (announces success done.answer.events) done.after
installed see m p at (Err refusal) = refused m p (protocol_status refusal)

-- InstallProtocolInterface(*handle8, *guid16, type, interface), of which the type has to be EFI_NATIVE_INTERFACE
unfoldable pub install_protocol_interface : List ℕ → (ℕ → Option ℕ) → Pages → Protocols → ProtocolDone
install_protocol_interface x see m p =
    if can_write see m (argument 0 x) 8 && (can_read see m (argument 1 x) 16 && low_word (argument 2 x) == 0)
    then installed see m p (argument 0 x) (installation p (handle_asked (number_seen see m (argument 0 x) 8)) (guid_seen see m (argument 1 x)) (argument 3 x))
    else invalid m p

-- The events of the registrations for the protocol are signalled.
abbrev pub reinstalled : Pages → Protocols → Result (Done Installation) ProtocolRefusal → ProtocolDone
reinstalled m p (Ok done) = record { answer = announces success done.answer.events; memory = m; protocols = done.after }
reinstalled m p (Err refusal) = refused m p (protocol_status refusal)

-- ReinstallProtocolInterface(handle, *guid16, old, new)
unfoldable pub reinstall_protocol_interface : List ℕ → (ℕ → Option ℕ) → Pages → Protocols → ProtocolDone
reinstall_protocol_interface x see m p =
    if can_read see m (argument 1 x) 16
    then reinstalled m p (reinstallation p (argument 0 x) (guid_seen see m (argument 1 x)) (argument 2 x) (argument 3 x))
    else invalid m p

-- A change of the protocols alone is made, or refused.
abbrev pub changed : Pages → Protocols → Result Protocols ProtocolRefusal → ProtocolDone
changed m p (Ok new) = refused m new success
changed m p (Err refusal) = refused m p (protocol_status refusal)

-- UninstallProtocolInterface(handle, *guid16, interface)
unfoldable pub uninstall_protocol_interface : List ℕ → (ℕ → Option ℕ) → Pages → Protocols → ProtocolDone
uninstall_protocol_interface x see m p =
    if can_read see m (argument 1 x) 16
    then changed m p (uninstallation p (argument 0 x) (guid_seen see m (argument 1 x)) (argument 2 x))
    else invalid m p
