-- The service of each slot.
use Rattle.std.specs.Prelude.{ℕ, ◌==◌, ◌&&◌, ◌||◌, nat_lt, Bool, is_some, Option, Some, None, if◌then◌else◌}
use Rattle.uh_base.specs.Statuses.{success, unsupported}
use Rattle.record_text.specs.declared.cause.Cause.TheVariants as causes
use Rattle.protocol_services.specs.Services.{is_protocol_slot}
use Rattle.runtime_services.specs.Slots.{service_of as runtime_service_of}
use Rattle.firmware_core.specs.declared.service.Service.{Service}
use Rattle.firmware_core.specs.declared.service.Service.TheVariants as services
use Rattle.firmware_core.specs.declared.event_service.EventService.{EventService}
use Rattle.firmware_core.specs.declared.image_service.ImageService.{ImageService}
use Rattle.firmware_core.specs.declared.conclusion.Conclusion.TheVariants.{Answers, Halts}
use Rattle.firmware_core.specs.Parts.{Parts}
use Rattle.firmware_core.specs.Services.{Concluded, at_allocate_pages, at_free_pages, at_get_memory_map, at_allocate_pool, at_free_pool, at_calculate_crc32, at_copy_mem, at_set_mem, at_output_string, at_test_string, at_query_mode, at_set_mode, at_protocols, at_runtime, at_reset, at_return}
use Rattle.firmware_core.specs.EventSlots.{event_service_of, serve_event}
use Rattle.firmware_core.specs.ImageSlots.{image_service_of, serve_image}

-- the service of any other slot: its place in the slot page, 16 bytes each, by this host's choice
unfoldable pub service_of : ℕ → Service
service_of slot =
    if slot == 2 then services.AllocatePages
    else (if slot == 3 then services.FreePages
    else (if slot == 4 then services.GetMemoryMap
    else (if slot == 5 then services.AllocatePool
    else (if slot == 6 then services.FreePool
    else (if slot == 40 then services.CalculateCrc32
    else (if slot == 41 then services.CopyMem
    else (if slot == 42 then services.SetMem
    else (if slot == 59 then services.OutputString
    else (if slot == 60 then services.TestString
    else (if slot == 61 then services.QueryMode
    else (if slot == 62 then services.SetMode
    else (if slot == 58 then services.Screen
    else (if slot == 63 then services.Screen
    else (if slot == 64 then services.Screen
    else (if slot == 65 then services.Screen
    else (if slot == 66 then services.Screen
    else (if slot == 54 then services.Reset
    else (if slot == 67 then services.Return
    else services.Unbuilt))))))))))))))))))

-- What changes a screen alone is answered with success, since a run shows none. A service that isn't built is unsupported.
unfoldable pub serve : Service → Parts → Concluded
serve services.AllocatePages f = at_allocate_pages f
serve services.FreePages f = at_free_pages f
serve services.GetMemoryMap f = at_get_memory_map f
serve services.AllocatePool f = at_allocate_pool f
serve services.FreePool f = at_free_pool f
serve services.CalculateCrc32 f = at_calculate_crc32 f
serve services.CopyMem f = at_copy_mem f
serve services.SetMem f = at_set_mem f
serve services.OutputString f = at_output_string f
serve services.TestString f = at_test_string f
serve services.QueryMode f = at_query_mode f
serve services.SetMode f = at_set_mode f
serve services.Screen f = record { conclusion = Answers success; firmware = f }
serve services.Reset f = at_reset f
serve services.Return f = at_return f
serve services.Unbuilt f = record { conclusion = Answers unsupported; firmware = f }

abbrev pub serve_image_or : ℕ → Parts → Option ImageService → Concluded
serve_image_or slot f None = serve (service_of slot) f
serve_image_or slot f (Some service) = serve_image service f

abbrev pub serve_event_or : ℕ → Parts → Option EventService → Concluded
serve_event_or slot f None = serve_image_or slot f (image_service_of slot)
serve_event_or slot f (Some service) = serve_event service f

unfoldable pub serve_by_slot : ℕ → Parts → Concluded
serve_by_slot slot f =
    if is_protocol_slot slot then at_protocols slot f
    else (if is_some (runtime_service_of slot) then at_runtime slot f
    else serve_event_or slot f (event_service_of slot))

-- the slots of the boot services, 0 to 43, and of the console, 58 to 66
abbrev pub is_boot_slot : ℕ → Bool
is_boot_slot slot = nat_lt slot 44 || (nat_lt 57 slot && nat_lt slot 67)

-- The service of a slot. Once boot services are over, the run halts where one of them or the console is called.
-- (UEFI 2.10, 7.4.6: ExitBootServices)
unfoldable pub serve_slot : ℕ → Parts → Concluded
serve_slot slot f =
    if f.runtime.gone && is_boot_slot slot then record { conclusion = Halts causes.BootGone; firmware = f }
    else serve_by_slot slot f
