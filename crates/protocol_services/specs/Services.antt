-- The services on handles and protocols by their slots, where `see` is the place that each address shows and `x` are the
-- registers of the call.
use Rattle.std.specs.Prelude.{ℕ, ◌==◌, ◌||◌, Bool, List, Option, if◌then◌else◌}
use Rattle.guest_memory.specs.Pages.{Pages}
use Rattle.page_alloc.specs.Pages.{PageList}
use Rattle.pool_alloc.specs.Pool.{BlockPage}
use Rattle.service_answer.specs.Answers.{Answer}
use Rattle.protocol_db.specs.Registrations.{Protocols}
use Rattle.protocol_services.specs.declared.service.ProtocolService.{ProtocolService}
use Rattle.protocol_services.specs.declared.service.ProtocolService.TheVariants as services
use Rattle.protocol_services.specs.Outputs.{ProtocolDone}
use Rattle.protocol_services.specs.Installing.{install_protocol_interface, reinstall_protocol_interface, uninstall_protocol_interface}
use Rattle.protocol_services.specs.Finding.{handle_protocol, locate_protocol}
use Rattle.protocol_services.specs.Searching.{locate_handle}
use Rattle.protocol_services.specs.Opening.{open_protocol, close_protocol}
use Rattle.protocol_services.specs.Blocks.{BlockDone}
use Rattle.protocol_services.specs.Lists.{open_protocol_information, protocols_per_handle, locate_handle_buffer, buffer_taken}
use Rattle.protocol_services.specs.Multiple.{install_multiple_protocol_interfaces, uninstall_multiple_protocol_interfaces}

-- the slots of the services
abbrev pub is_protocol_slot : ℕ → Bool
is_protocol_slot slot = slot == 13 || (slot == 14 || (slot == 15 || (slot == 16 || (slot == 19 || (slot == 32 || (slot == 33 || (slot == 34 || (slot == 35 || (slot == 36 || (slot == 37 || (slot == 38 || slot == 39)))))))))))

-- the service of each of them
abbrev pub service_of : ℕ → ProtocolService
service_of slot =
    if slot == 13 then services.InstallProtocolInterface
    else if slot == 14 then services.ReinstallProtocolInterface
    else if slot == 15 then services.UninstallProtocolInterface
    else if slot == 16 then services.HandleProtocol
    else if slot == 19 then services.LocateHandle
    else if slot == 32 then services.OpenProtocol
    else if slot == 33 then services.CloseProtocol
    else if slot == 34 then services.OpenProtocolInformation
    else if slot == 35 then services.ProtocolsPerHandle
    else if slot == 36 then services.LocateHandleBuffer
    else if slot == 37 then services.LocateProtocol
    else if slot == 38 then services.InstallMultipleProtocolInterfaces
    else services.UninstallMultipleProtocolInterfaces

-- what a service answers, and the parts of the machine behind it
pub record ServiceDone : Type 0 where
  pub answer : Answer
  pub memory : Pages
  pub pages : PageList
  pub pool : List BlockPage
  pub protocols : Protocols

-- No page and no block is given or taken back.
abbrev pub on_pages : PageList → List BlockPage → ProtocolDone → ServiceDone
on_pages pages pool done = record { answer = done.answer; memory = done.memory; pages = pages; pool = pool; protocols = done.protocols }

-- The protocols are so behind it.
abbrev pub with_protocols : Protocols → BlockDone → ServiceDone
with_protocols p done = record { answer = done.answer; memory = done.memory; pages = done.pages; pool = done.pool; protocols = p }

-- A handle that was found as pending is pending no more.
abbrev pub with_taken : List ℕ → Protocols → BlockDone → ServiceDone
with_taken x p done = with_protocols (buffer_taken x p done.answer) done

unfoldable pub served : ProtocolService → List ℕ → (ℕ → Option ℕ) → Pages → PageList → List BlockPage → Protocols → ServiceDone
served services.InstallProtocolInterface x see m pages pool p = on_pages pages pool (install_protocol_interface x see m p)
served services.ReinstallProtocolInterface x see m pages pool p = on_pages pages pool (reinstall_protocol_interface x see m p)
served services.UninstallProtocolInterface x see m pages pool p = on_pages pages pool (uninstall_protocol_interface x see m p)
served services.HandleProtocol x see m pages pool p = on_pages pages pool (handle_protocol x see m p)
served services.LocateHandle x see m pages pool p = on_pages pages pool (locate_handle x see m p)
served services.OpenProtocol x see m pages pool p = on_pages pages pool (open_protocol x see m p)
served services.CloseProtocol x see m pages pool p = on_pages pages pool (close_protocol x see m p)
served services.OpenProtocolInformation x see m pages pool p = with_protocols p (open_protocol_information x see m pages pool p)
served services.ProtocolsPerHandle x see m pages pool p = with_protocols p (protocols_per_handle x see m pages pool p)
served services.LocateHandleBuffer x see m pages pool p = with_taken x p (locate_handle_buffer x see m pages pool p)
served services.LocateProtocol x see m pages pool p = on_pages pages pool (locate_protocol x see m p)
served services.InstallMultipleProtocolInterfaces x see m pages pool p = on_pages pages pool (install_multiple_protocol_interfaces x see m p)
served services.UninstallMultipleProtocolInterfaces x see m pages pool p = on_pages pages pool (uninstall_multiple_protocol_interfaces x see m p)

abbrev pub serve_protocol : ℕ → List ℕ → (ℕ → Option ℕ) → Pages → PageList → List BlockPage → Protocols → ServiceDone
serve_protocol slot x see m pages pool p = served (service_of slot) x see m pages pool p
