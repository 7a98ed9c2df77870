-- Each service of the firmware, over the parts that it reads and changes.
use Rattle.std.specs.Prelude.{ℕ, ◌==◌, ◌&&◌, not, nat_lt, ◌^◌, Bool, false, Option, Some, None, if◌then◌else◌}
use Rattle.guest_memory.specs.Pages.{Pages}
use Rattle.page_alloc.specs.Pages.{PageList}
use Rattle.address_view.specs.Windows.{see}
use Rattle.record_text.specs.declared.cause.Cause.TheVariants as causes
use Rattle.guest_call.specs.declared.answer.Answer.{Answer}
use Rattle.guest_call.specs.declared.answer.Answer.TheVariants.{Gives, LacksFrames}
use Rattle.guest_call.specs.Arguments.{argument, low_word}
use Rattle.memory_services.specs.Ram.{MemoryDone}
use Rattle.memory_services.specs.PageServices.{allocate_pages, free_pages}
use Rattle.memory_services.specs.PoolServices.{allocate_pool, free_pool}
use Rattle.memory_services.specs.MapService.{get_memory_map}
use Rattle.memory_services.specs.Copies.{calculate_crc32, copy_mem, set_mem}
use Rattle.console_services.specs.Console as console
use Rattle.console_services.specs.Console.{Reply, output_string, test_string, set_mode}
use Rattle.console_services.specs.Modes.{query_mode}
use Rattle.service_answer.specs.Answers as service
use Rattle.event_queue.specs.Queue.{signal_each}
use Rattle.protocol_services.specs.Services.{serve_protocol}
use Rattle.runtime_services.specs.Serving.{serve_runtime}
use Rattle.image_services.specs.Images.{Loaded, find_image}
use Rattle.image_services.specs.Stores.{Store}
use Rattle.image_services.specs.Unloads.{discarded}
use Rattle.image_calls.specs.Starts.{StartDone, outputs_given}
use Rattle.firmware_core.specs.declared.frame.Ending.{Ending}
use Rattle.firmware_core.specs.declared.frame.Frame.{Frame}
use Rattle.firmware_core.specs.declared.frame.Purpose.{Purpose}
use Rattle.firmware_core.specs.declared.frame.Purpose.TheVariants.{Job, Image, Call, Runtime, Notification}
use Rattle.firmware_core.specs.declared.conclusion.Conclusion.{Conclusion}
use Rattle.firmware_core.specs.declared.conclusion.Conclusion.TheVariants.{Answers, Prints, Continues, Leaves, Resets, Halts}
use Rattle.firmware_core.specs.Harts.{Hart}
use Rattle.firmware_core.specs.Parts.{Parts}
use Rattle.firmware_core.specs.Frames.{top_of, below_top, answered}

-- what a service comes to, and the parts behind it
pub record Concluded : Type 0 where
  pub conclusion : Conclusion
  pub firmware : Parts

-- argument n of a call, from 0 on
abbrev pub given : ℕ → Parts → ℕ
given n f = argument n f.hart.x

-- ---- memory

abbrev pub conclusion_of : Answer → Conclusion
conclusion_of (Gives a0) = Answers a0
conclusion_of LacksFrames = Halts causes.Frames

abbrev pub with_memory : Parts → Pages → Parts
with_memory f memory = record f { runtime = record f.runtime { memory = memory } }

abbrev pub with_pages : Parts → Pages → PageList → Parts
with_pages f memory pages = record f { runtime = record f.runtime { memory = memory; pages = pages } }

abbrev pub on_memory : Parts → MemoryDone → Concluded
on_memory f done = record { conclusion = conclusion_of done.answer; firmware = with_memory f done.memory }

unfoldable pub at_allocate_pages : Parts → Concluded
at_allocate_pages f =
    let done = allocate_pages f.hart.x (see f.runtime.view) f.runtime.memory f.runtime.pages in
    record { conclusion = conclusion_of done.answer; firmware = with_pages f done.memory done.pages }

unfoldable pub at_free_pages : Parts → Concluded
at_free_pages f =
    let done = free_pages f.hart.x f.runtime.memory f.runtime.pages in record { conclusion = Answers done.status; firmware = with_pages f done.memory done.pages }

unfoldable pub at_get_memory_map : Parts → Concluded
at_get_memory_map f = on_memory f (get_memory_map f.hart.x (see f.runtime.view) f.runtime.memory f.runtime.pages)

unfoldable pub at_allocate_pool : Parts → Concluded
at_allocate_pool f =
    let done = allocate_pool f.hart.x (see f.runtime.view) f.runtime.memory f.runtime.pages f.pool in
    record { conclusion = conclusion_of done.answer; firmware = record (with_pages f done.memory done.pages) { pool = done.pool } }

unfoldable pub at_free_pool : Parts → Concluded
at_free_pool f =
    let done = free_pool f.hart.x f.runtime.memory f.runtime.pages f.pool in
    record { conclusion = Answers done.status; firmware = record (with_pages f done.memory done.pages) { pool = done.pool } }

unfoldable pub at_calculate_crc32 : Parts → Concluded
at_calculate_crc32 f = on_memory f (calculate_crc32 f.hart.x (see f.runtime.view) f.runtime.memory)

unfoldable pub at_copy_mem : Parts → Concluded
at_copy_mem f = on_memory f (copy_mem f.hart.x (see f.runtime.view) f.runtime.memory)

unfoldable pub at_set_mem : Parts → Concluded
at_set_mem f = on_memory f (set_mem f.hart.x (see f.runtime.view) f.runtime.memory)

-- ---- the console

abbrev pub replied : Reply → Conclusion
replied (console.Answers a0) = Answers a0
replied (console.Prints text a0) = Prints text a0

unfoldable pub at_output_string : Parts → Concluded
at_output_string f = record { conclusion = replied (output_string f.runtime.view f.runtime.memory (given 1 f)); firmware = f }

unfoldable pub at_test_string : Parts → Concluded
at_test_string f = record { conclusion = Answers (test_string f.runtime.view f.runtime.memory (given 1 f)); firmware = f }

unfoldable pub at_query_mode : Parts → Concluded
at_query_mode f =
    let done = query_mode f.hart.x (see f.runtime.view) f.runtime.memory in record { conclusion = conclusion_of done.answer; firmware = with_memory f done.memory }

abbrev pub at_set_mode : Parts → Concluded
at_set_mode f = record { conclusion = Answers (set_mode (given 1 f)); firmware = f }

-- ---- handles and protocols

abbrev pub served : service.Answer → Conclusion
served answer = if answer.frames then Halts causes.Frames else Answers answer.value

-- A service answers, and its events are signalled, one after another.
unfoldable pub announced : Parts → service.Answer → Concluded
announced f answer = record { conclusion = served answer; firmware = record f { events = signal_each answer.events f.events } }

unfoldable pub at_protocols : ℕ → Parts → Concluded
at_protocols slot f =
    let done = serve_protocol slot f.hart.x (see f.runtime.view) f.runtime.memory f.runtime.pages f.pool f.protocols in
    announced (record (with_pages f done.memory done.pages) { pool = done.pool; protocols = done.protocols }) done.answer

-- ---- variables, time, the monotonic count and capsules

unfoldable pub at_runtime : ℕ → Parts → Concluded
at_runtime slot f =
    let done = serve_runtime slot f.hart.x (see f.runtime.view) f.runtime.memory f.variables f.clock f.count f.time f.runtime.gone in
    record { conclusion = served done.answer; firmware = record (with_memory f done.memory) { variables = done.variables; clock = done.clock; count = done.count } }

-- ---- the reset

-- ResetSystem(type, status): the run is over, since there is no platform to start again. (UEFI 2.10, 8.5.1)
abbrev pub at_reset : Parts → Concluded
at_reset f = record { conclusion = Resets (low_word (given 0 f)) (given 1 f); firmware = f }

-- ---- the end of what runs

-- An application, and a driver whose status is an error, is unloaded when it ends. (UEFI 2.10, 7.4: StartImage)
abbrev pub stays : ℕ → ℕ → Bool
stays subsystem status = not (subsystem == 10) && nat_lt status (2 ^ 63)

-- what image services work on
abbrev pub store_of : Parts → Store
store_of f = record { images = f.images; memory = f.runtime.memory; pages = f.runtime.pages; pool = f.pool; protocols = f.protocols }

abbrev pub with_store : Parts → Store → Parts
with_store f store = record (with_pages f store.memory store.pages) { pool = store.pool; images = store.images; protocols = store.protocols }

-- whether an image is unloaded when it ends with a status
abbrev pub goes : ℕ → Option Loaded → Bool
goes status None = false
goes status (Some image) = not (stays image.subsystem status)

abbrev pub without_image : Parts → ℕ → Parts
without_image f handle = with_store f (discarded (store_of f) handle)

-- Once boot services are over, none is unloaded. (UEFI 2.10, 7.4.6: ExitBootServices)
abbrev pub image_ended : Parts → ℕ → ℕ → Parts
image_ended f handle status = if not f.runtime.gone && goes status (find_image f.images handle) then without_image f handle else f

-- the level as it was at the frame's start
abbrev pub with_level : Parts → ℕ → Parts
with_level f tpl = record f { hart = record f.hart { tpl = tpl } }

-- the hart as it was at the frame's start
abbrev pub with_hart : Parts → Hart → Parts
with_hart f back = record f { hart = back }

-- StartImage answers, and its caller goes on.
abbrev pub start_ended : Parts → StartDone → Concluded
start_ended f done =
    if done.served.frames then record { conclusion = Halts causes.Frames; firmware = with_memory f done.memory }
    else record { conclusion = Continues; firmware = answered (with_memory f done.memory) done.served.value }

-- The outputs of StartImage are written where its caller's registers name them.
unfoldable pub with_outputs : Parts → Ending → Concluded
with_outputs f e = start_ended f (outputs_given f.hart.x (see f.runtime.view) f.runtime.memory e.status e.size e.exit_data)

-- The image of a job leaves with its status, at the level of its start.
abbrev pub job_ended : Parts → ℕ → ℕ → ℕ → Concluded
job_ended f handle tpl status = record { conclusion = Leaves status; firmware = image_ended (with_level f tpl) handle status }

-- Behind an image that another one started, the starter goes on as it was. The image is unloaded before the outputs are written:
-- so none is written in the pages of one that has gone.
abbrev pub started_ended : Parts → ℕ → Hart → Ending → Concluded
started_ended f handle back ending = with_outputs (image_ended (with_hart f back) handle ending.status) ending

-- Behind a call by the host the hart is at its slot again, as it was, and a0 of the call is kept.
abbrev pub call_ended : Parts → Hart → ℕ → Concluded
call_ended f back a0 = record { conclusion = Continues; firmware = record (with_hart f back) { returned = Some a0 } }

-- Behind a notification the hart is as it was. A call of runtime code leaves with a0; it doesn't return to a slot.
unfoldable pub frame_ended : Parts → Frame → Ending → Concluded
frame_ended f frame ending = by_purpose frame.purpose
  where
    by_purpose : Purpose → Concluded
    by_purpose Notification = record { conclusion = Continues; firmware = with_hart f frame.back }
    by_purpose (Job handle) = job_ended f handle frame.back.tpl ending.status
    by_purpose Call = call_ended f frame.back ending.status
    by_purpose Runtime = record { conclusion = Leaves ending.status; firmware = f }
    by_purpose (Image handle) = started_ended f handle frame.back ending

-- The innermost frame ends. With no frame no service ends one.
abbrev pub ended : Parts → Option Frame → Ending → Concluded
ended f None ending = record { conclusion = Continues; firmware = f }
ended f (Some frame) ending = frame_ended (record f { frames = below_top f.frames }) frame ending

abbrev pub top_ended : Parts → Ending → Concluded
top_ended f ending = ended f (top_of f.frames) ending

-- What returns has its status in a0, and no exit data.
abbrev pub returning : Parts → Ending
returning f = record { status = given 0 f; size = 0; exit_data = 0 }

unfoldable pub at_return : Parts → Concluded
at_return f = top_ended f (returning f)
