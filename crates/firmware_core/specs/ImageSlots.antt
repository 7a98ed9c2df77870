-- The services on images, over the parts that each reads and changes.
use Rattle.std.specs.Prelude.{ℕ, ◌==◌, Option, Some, None, Result, Ok, Err, if◌then◌else◌}
use Rattle.uh_base.specs.declared.status.EfiStatus.{EfiStatus}
use Rattle.uh_base.specs.Statuses.{success, invalid_parameter}
use Rattle.address_view.specs.Windows.{see}
use Rattle.record_text.specs.declared.cause.Cause.TheVariants as causes
use Rattle.image_calls.specs.declared.exit.ExitStep.{ExitStep}
use Rattle.image_calls.specs.declared.exit.ExitStep.TheVariants as exits
use Rattle.image_calls.specs.Loading.{load_image, unload_image}
use Rattle.image_calls.specs.Starts.{start_asked}
use Rattle.image_calls.specs.Exits.{exit_asked}
use Rattle.firmware_core.specs.declared.frame.Purpose.{Purpose}
use Rattle.firmware_core.specs.declared.frame.Purpose.TheVariants as purposes
use Rattle.firmware_core.specs.declared.frame.Frame.{Frame}
use Rattle.firmware_core.specs.declared.image_service.ImageService.{ImageService}
use Rattle.firmware_core.specs.declared.image_service.ImageService.TheVariants as services
use Rattle.firmware_core.specs.declared.conclusion.Conclusion.TheVariants.{Answers, Continues, Halts}
use Rattle.firmware_core.specs.Parts.{Parts}
use Rattle.firmware_core.specs.Frames.{is_full, top_of, aligned_stack, with_image}
use Rattle.firmware_core.specs.Services.{Concluded, given, store_of, with_store, without_image, announced, top_ended}
use Rattle.firmware_core.specs.BootEnd.{at_exit_boot_services}

-- ---- loading

-- The events that are registered for the protocol of the image's handle are signalled. (UEFI 2.10, 7.4.1)
unfoldable pub at_load_image : Parts → Concluded
at_load_image f =
    let done = load_image f.hart.x (see f.runtime.view) f.runtime.layout (store_of f) in
    announced (with_store f done.after) done.served

-- (UEFI 2.10, 7.4.3)
unfoldable pub at_unload_image : Parts → Concluded
at_unload_image f =
    let done = unload_image f.hart.x (store_of f) in
    record { conclusion = Answers done.status; firmware = with_store f done.after }

-- ---- starting

-- The image begins on its caller's stack, unless 64 frames stand.
abbrev pub start_by : Parts → Result ℕ EfiStatus → Concluded
start_by f (Err refusal) = record { conclusion = Answers refusal.0; firmware = f }
start_by f (Ok entry) =
    if is_full f then record { conclusion = Halts causes.Depth; firmware = f }
    else record { conclusion = Continues; firmware = with_image f (purposes.Image (given 0 f)) (given 0 f) (aligned_stack f) entry }

-- (UEFI 2.10, 7.4.2)
unfoldable pub at_start_image : Parts → Concluded
at_start_image f = start_by f (start_asked f.hart.x (see f.runtime.view) f.runtime.memory f.images)

-- ---- exit

abbrev pub image_of : Purpose → Option ℕ
image_of (purposes.Job handle) = Some handle
image_of (purposes.Image handle) = Some handle
image_of purposes.Call = None
image_of purposes.Runtime = None
image_of purposes.Notification = None

-- the image that runs: that of the innermost frame, if that is an image's
abbrev pub image_in : Option Frame → Option ℕ
image_in None = None
image_in (Some frame) = image_of frame.purpose

abbrev pub running_image : Parts → Option ℕ
running_image f = image_in (top_of f.frames)

abbrev pub exit_by : Parts → ExitStep → Concluded
exit_by f exits.Refused = record { conclusion = Answers invalid_parameter; firmware = f }
exit_by f (exits.Unloads handle) = record { conclusion = Answers success; firmware = without_image f handle }
exit_by f (exits.Ends status size exit_data) = top_ended f (record { status = status; size = size; exit_data = exit_data })

-- The image that runs ends as by its return, with exit data. (UEFI 2.10, 7.4.5)
unfoldable pub at_exit : Parts → Concluded
at_exit f = exit_by f (exit_asked f.hart.x f.images (running_image f))

-- ---- the choice

-- the service on images of a slot
unfoldable pub image_service_of : ℕ → Option ImageService
image_service_of slot =
    if slot == 22 then Some services.LoadImage
    else (if slot == 23 then Some services.StartImage
    else (if slot == 24 then Some services.Exit
    else (if slot == 25 then Some services.UnloadImage
    else (if slot == 26 then Some services.ExitBootServices
    else None))))

unfoldable pub serve_image : ImageService → Parts → Concluded
serve_image services.LoadImage f = at_load_image f
serve_image services.StartImage f = at_start_image f
serve_image services.Exit f = at_exit f
serve_image services.UnloadImage f = at_unload_image f
serve_image services.ExitBootServices f = at_exit_boot_services f
