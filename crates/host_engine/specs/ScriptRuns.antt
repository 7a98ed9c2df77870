-- The run of a script: the lines of its steps, in order.
use Rattle.std.specs.Prelude.{◌≡◌, ◌⊎◌, ℕ, List, [], ◌∷◌, ◌++◌, ◌+◌, ◌*◌, ◌%◌, ◌^◌, ◌==◌, length, map, replicate, slice_index_or, slice_set, Bool, true, false, Option, Some, None, Result, Ok, Err, if◌then◌else◌}
use Rattle.std.specs.List.{position_or_len}
use Rattle.std.specs.Str.{bytes_eq}
use Rattle.uh_base.specs.Statuses.{success, invalid_parameter}
use Rattle.uh_base.specs.Counts.{Rose}
use Rattle.uh_base.specs.Told.{grown, GrownByPart}
use Rattle.record_text.specs.declared.line.Line.{Line}
use Rattle.record_text.specs.declared.cause.Cause.{Cause}
use Rattle.record_text.specs.declared.cause.Cause.TheVariants as causes
use Rattle.record_text.specs.declared.line.Line.TheVariants as lines
use Rattle.record_text.specs.Services.{service_name}
use Rattle.host_script.specs.Plain.{Plain}
use Rattle.host_script.specs.Steps.{CallPlain}
use Rattle.host_script.specs.declared.script.Arg.{Arg}
use Rattle.host_script.specs.declared.script.Arg.TheVariants as args
use Rattle.host_script.specs.declared.script.Buffer.{Buffer}
use Rattle.host_script.specs.declared.script.Shown.{Shown}
use Rattle.host_script.specs.declared.script.Target.{Target}
use Rattle.host_script.specs.declared.script.Target.TheVariants as targets
use Rattle.host_script.specs.declared.script.ImageSpec.{ImageSpec}
use Rattle.host_script.specs.declared.script.Step.{Step}
use Rattle.host_script.specs.declared.script.Step.TheVariants.{Load, Unload, Start, ExitBoot, Check, Map, Call, Peek, MemMap, Vars}
use Rattle.page_alloc.specs.Pages.{PageList}
use Rattle.page_alloc.specs.declared.layout.Layout.{Layout}
use Rattle.map_faults.specs.Grounds.{Kept}
use Rattle.memory_map.specs.declared.descriptor.Descriptor.{Descriptor}
use Rattle.memory_map.specs.Map.{map_of}
use Rattle.guest_memory.specs.Pages as memory
use Rattle.guest_memory.specs.Pages.{Pages}
use Rattle.guest_memory.specs.Runs.{bytes_from}
use Rattle.address_view.specs.Windows.{see, seen_bytes}
use Rattle.address_view.specs.Seen.{all_pass, is_seen}
use Rattle.address_view.specs.declared.view.Window.{Window}
use Rattle.time_service.specs.Clocks.{set_to}
use Rattle.time_service.specs.Texts.{time_in}
use Rattle.variable_store.specs.Entries.{Entry}
use Rattle.variable_store.specs.Reading.{store_in}
use Rattle.variable_store.specs.Store.{store_of}
use Rattle.firmware_core.specs.declared.happened.JobEnd.{JobEnd}
use Rattle.firmware_core.specs.declared.happened.JobEnd.TheVariants.{Left, Trapped, Reset, Halted}
use Rattle.firmware_core.specs.declared.call_spec.CallBuffer.{CallBuffer}
use Rattle.firmware_core.specs.CallSpecs as spec
use Rattle.firmware_core.specs.declared.job.Job.TheVariants as jobs
use Rattle.firmware_core.specs.Opening.{opened}
use Rattle.firmware_core.specs.Turns.{State}
use Rattle.firmware_core.specs.Jobs.{Begun, begun, Job, job_of}
use Rattle.firmware_core.specs.Loads.{LoadDone, loaded, UnloadDone, unloaded}
use Rattle.firmware_core.specs.ExitSteps.{ExitDone, exited}
use Rattle.host_engine.specs.Inputs.{Inputs}
use Rattle.host_engine.specs.declared.course.Course.{Course}
use Rattle.host_engine.specs.declared.course.Course.TheVariants.{GoesOn, Resets, Halts}
use Rattle.host_engine.specs.declared.script_run.Outcome.{Outcome}
use Rattle.host_engine.specs.declared.script_run.Outcome.TheVariants as outcomes
use Rattle.host_engine.specs.Jobs.{bytes_of}

-- the place of an image among those of a script, by its name
abbrev pub place_of : List ImageSpec → List ℕ → ℕ
place_of images name = position_or_len (λ image. bytes_eq image.name name) images

-- the file at a place
abbrev pub file_at : List (List ℕ) → ℕ → List ℕ
file_at files place = slice_index_or files place []

-- the machine of a run, and the handle of each image of the script that was loaded last, 0 where none was
pub record Running : Type 0 where
  pub machine : State
  pub handles : List ℕ

-- a step's lines, whether and how the run ends with it, and the run behind it
pub record Stepped : Type 0 where
  pub lines : List Line
  pub course : Course
  pub running : Running

-- ---- load

-- the handles with that of an image at a place, unless it was refused
abbrev pub with_handle : List ℕ → ℕ → ℕ → List ℕ
with_handle handles place handle = if handle == 0 then handles else slice_set handles place handle

abbrev pub load_comes_to : List ℕ → ℕ → List ℕ → LoadDone → Stepped
load_comes_to name place handles done = record {
  lines = lines.Load name done.status done.base done.pages ∷ [];
  course = GoesOn;
  running = record { machine = done.state; handles = with_handle handles place done.handle };
}

-- the load of an image by its name, its place and its file
unfoldable pub load_made : List ℕ → ℕ → List ℕ → Running → Stepped
load_made name place file r = load_comes_to name place r.handles (loaded r.machine file)

-- ---- start

-- the line of a call that was ended by its bound or a trap
abbrev pub stop_line : List ℕ → Cause → ℕ → Line
stop_line name causes.Bound steps = lines.CallBound name steps
stop_line name cause steps = lines.CallTrap name cause steps

-- the last line of a job
abbrev pub last_line : List ℕ → JobEnd → Line
last_line name (Left value steps) = lines.Start name value steps
last_line name (Trapped cause steps) = stop_line name cause steps
last_line name (Reset kind status) = lines.Reset kind status
last_line name (Halted halt) = lines.Halt halt.cause halt.pc halt.at

-- A reset ends the run, and so does a halt.
abbrev pub course_of : JobEnd → Course
course_of (Left value steps) = GoesOn
course_of (Trapped cause steps) = GoesOn
course_of (Reset kind status) = Resets
course_of (Halted halt) = Halts

abbrev pub job_over : List ℕ → List ℕ → Job → Stepped
job_over name handles job = record { lines = job.lines ++ last_line name job.end ∷ []; course = course_of job.end; running = record { machine = job.state; handles = handles } }

-- An image that can't begin is refused.
abbrev pub start_comes_to : List ℕ → Running → Begun → Stepped
start_comes_to name r start =
    if start.begins then job_over name r.handles (job_of start.state)
    else record { lines = lines.Start name invalid_parameter 0 ∷ []; course = GoesOn; running = record { machine = start.state; handles = r.handles } }

-- the handle of the image that was loaded last at a place, 0 where none was
abbrev pub handle_at : List ℕ → ℕ → ℕ
handle_at handles place = slice_index_or handles place 0

-- the start of an image by its name and its place
unfoldable pub start_made : List ℕ → ℕ → ℕ → Running → Stepped
start_made name place bound r = start_comes_to name r (begun r.machine (jobs.Start (handle_at r.handles place) bound))

-- ---- unload

abbrev pub unload_comes_to : List ℕ → List ℕ → UnloadDone → Stepped
unload_comes_to name handles done = record {
  lines = lines.Unload name done.status ∷ [];
  course = GoesOn;
  running = record { machine = done.state; handles = handles };
}

-- the unload of an image by its name and its place
unfoldable pub unload_made : List ℕ → ℕ → Running → Stepped
unload_made name place r = unload_comes_to name r.handles (unloaded r.machine (handle_at r.handles place))

-- ---- exit_boot

-- the last line of the job that ends boot services; a trap halts the run there
abbrev pub exit_line : JobEnd → Line
exit_line (Left value steps) = lines.ExitBoot value
exit_line (Trapped cause steps) = lines.Halt cause 0 0
exit_line (Reset kind status) = lines.Reset kind status
exit_line (Halted halt) = lines.Halt halt.cause halt.pc halt.at

abbrev pub exit_over : List ℕ → Job → Stepped
exit_over handles job = record { lines = job.lines ++ exit_line job.end ∷ []; course = course_of job.end; running = record { machine = job.state; handles = handles } }

-- A refusal is told at once. Else the job is made, whose notifications may print.
abbrev pub exit_comes_to : List ℕ → ExitDone → Stepped
exit_comes_to handles done =
    if done.status == success then exit_over handles (job_of done.state)
    else record { lines = lines.ExitBoot done.status ∷ []; course = GoesOn; running = record { machine = done.state; handles = handles } }

-- the end of boot services for the image at a place, with a key of the memory map or the present one
unfoldable pub exit_made : ℕ → Option ℕ → Running → Stepped
exit_made place key r = exit_comes_to r.handles (exited r.machine (handle_at r.handles place) key)

-- ---- call

-- the name of what is called: the image's or the service's
abbrev pub called_name : Target → List ℕ
called_name (targets.Image name at) = name
called_name (targets.Service slot) = service_name slot

-- an offset behind a place, as an address
abbrev pub behind_place : ℕ → ℕ → ℕ
behind_place place offset = (place + offset) % 2 ^ 64

-- an offset of the image of a handle, if that was kept
unfoldable pub kept_at : List Kept → ℕ → ℕ → Option ℕ
kept_at [] handle at = None
kept_at (image ∷ images) handle at = if image.handle == handle then Some (behind_place image.base at) else kept_at images handle at

-- where a call begins, if what it calls is there; slot k is 16 k bytes into the slot page
abbrev pub called_at : List ImageSpec → Target → Running → Option ℕ
called_at images (targets.Image name at) r = kept_at r.machine.firmware.runtime.kept (handle_at r.handles (place_of images name)) at
called_at images (targets.Service slot) r = Some (behind_place r.machine.firmware.runtime.layout.slots (16 * slot))

abbrev pub argument_of : Layout → Arg → ℕ
argument_of layout (args.Number n) = n
argument_of layout (args.At offset) = behind_place layout.os_args offset

abbrev pub buffer_of : Buffer → CallBuffer
buffer_of buffer = record { offset = buffer.offset; bytes = buffer.hex }

-- bytes of the operating system's arguments, as they lie in memory
abbrev pub bytes_line : Layout → Pages → Shown → Line
bytes_line layout m shown = lines.Bytes shown.offset (bytes_from (memory.bytes_of m) (behind_place layout.os_args shown.offset) shown.len)

-- the last line of the job of a call
abbrev pub call_line : List ℕ → JobEnd → Line
call_line name (Left value steps) = lines.Call name value steps
call_line name (Trapped cause steps) = stop_line name cause steps
call_line name (Reset kind status) = lines.Reset kind status
call_line name (Halted halt) = lines.Halt halt.cause halt.pc halt.at

abbrev pub call_over : List ℕ → List ℕ → Job → Stepped
call_over name handles job = record { lines = job.lines ++ call_line name job.end ∷ []; course = course_of job.end; running = record { machine = job.state; handles = handles } }

-- the lines of the bytes that are to be shown, where the run goes on
abbrev pub shown_lines : List Shown → Course → Running → List Line
shown_lines show GoesOn r = map (bytes_line r.machine.firmware.runtime.layout r.machine.firmware.runtime.memory) show
shown_lines show Resets r = []
shown_lines show Halts r = []

-- They come behind the line of the call.
abbrev pub with_shown : List Shown → Stepped → Stepped
with_shown show s = record s { lines = s.lines ++ shown_lines show s.course s.running }

-- A call that can't begin is early.
abbrev pub call_early : List ℕ → Running → Stepped
call_early name r = record { lines = lines.CallEarly name ∷ []; course = GoesOn; running = r }

abbrev pub call_comes_to : List ℕ → List Shown → Running → Begun → Stepped
call_comes_to name show r call =
    if call.begins then with_shown show (call_over name r.handles (job_of call.state))
    else call_early name (record { machine = call.state; handles = r.handles })

-- what a call at an address asks the machine for
abbrev pub spec_of : Layout → ℕ → CallPlain → spec.CallPlain
spec_of layout pc call = record { pc = pc; args = map (argument_of layout) call.args; buffers = map buffer_of call.buffers; bound = call.bound }

abbrev pub call_begun : CallPlain → State → ℕ → Begun
call_begun call s pc = begun s (jobs.Call (spec_of s.firmware.runtime.layout pc call))

abbrev pub call_from : CallPlain → Running → Option ℕ → Stepped
call_from call r None = call_early (called_name call.target) r
call_from call r (Some pc) = call_comes_to (called_name call.target) call.show r (call_begun call r.machine pc)

-- the call of runtime code
unfoldable pub call_made : List ImageSpec → CallPlain → Running → Stepped
call_made images call r = call_from call r (called_at images call.target r)

-- ---- memmap

abbrev pub row_of : Descriptor → Line
row_of d = lines.MemmapRow d.memory_type d.start d.pages d.attribute

-- the memory map: its key, and its descriptors in order of address
unfoldable pub map_lines : PageList → List Line
map_lines pages = lines.MemmapKey pages.key ∷ map row_of (map_of pages)

abbrev pub map_made : Running → Stepped
map_made r = record { lines = map_lines r.machine.firmware.runtime.pages; course = GoesOn; running = r }

-- ---- peek

-- The bytes that are seen from an address on, whatever the rights there; a fault where one of them isn't seen.
unfoldable pub peek_line : List Window → Pages → ℕ → ℕ → Line
peek_line windows m at len =
    if all_pass (is_seen (see windows) m) at len then lines.Peek at (bytes_from (seen_bytes (see windows) (memory.bytes_of m)) at len)
    else lines.PeekFault at

-- bytes of memory, in the present view
abbrev pub peek_made : ℕ → ℕ → Running → Stepped
peek_made at len r = record { lines = peek_line r.machine.firmware.runtime.view r.machine.firmware.runtime.memory at len ∷ []; course = GoesOn; running = r }

-- ---- vars

-- the store file of the present variables
abbrev pub vars_made : Running → Stepped
vars_made r = record { lines = lines.Vars (store_of r.machine.firmware.variables) ∷ []; course = GoesOn; running = r }

-- ---- the run

-- A step that isn't built makes nothing; a script that has one is refused before it runs (`first_unbuilt`).
abbrev pub nothing_made : Running → Stepped
nothing_made r = record { lines = []; course = GoesOn; running = r }

abbrev pub step_made : Plain → Inputs → Step → Running → Stepped
step_made script inputs (Load name) r = load_made name (place_of script.image name) (file_at inputs.images (place_of script.image name)) r
step_made script inputs (Start name bound) r = start_made name (place_of script.image name) bound r
step_made script inputs (Unload name) r = unload_made name (place_of script.image name) r
step_made script inputs MemMap r = map_made r
step_made script inputs (ExitBoot name key) r = exit_made (place_of script.image name) key r
step_made script inputs (Check name origin) r = nothing_made r
step_made script inputs (Map map) r = nothing_made r
step_made script inputs (Call call) r = call_made script.image call r
step_made script inputs (Peek at len) r = peek_made at len r
step_made script inputs Vars r = vars_made r

-- the lines of a run, and whether its last line is a halt
pub record Run : Type 0 where
  pub lines : List Line
  pub halted : Bool

abbrev pub then_by : Course → List Line → Run → Run
then_by GoesOn lines rest = record { lines = lines ++ rest.lines; halted = rest.halted }
then_by Resets lines rest = record { lines = lines; halted = false }
then_by Halts lines rest = record { lines = lines; halted = true }

abbrev pub then_run : Stepped → Run → Run
then_run step rest = then_by step.course step.lines rest

unfoldable pub run_from : Plain → Inputs → Running → List Step → Run
run_from script inputs r [] = record { lines = lines.End ∷ []; halted = false }
run_from script inputs r (step ∷ steps) = then_run (step_made script inputs step r) (run_from script inputs (step_made script inputs step r).running steps)

-- the machine that a script asks for, with these variables, its clock at the time of the script, and none of its images loaded
abbrev pub at_opening : Plain → List Entry → Running
at_opening script variables = record {
  machine = record { firmware = opened script.ram_base script.ram_pages script.ticks (set_to 0 (time_in script.time)) variables; steps = 0; bound = 0; trace = script.trace };
  handles = replicate (length script.image) 0;
}

-- the run of a script from these variables on
unfoldable pub run_with : Plain → Inputs → List Entry → Run
run_with script inputs variables = run_from script inputs (at_opening script variables) script.step

-- the variables of a store, or where it is refused; without a store there are none
abbrev pub variables_in : Option (List ℕ) → Result (List Entry) ℕ
variables_in None = Ok []
variables_in (Some bytes) = store_in bytes

abbrev pub run_loaded : Plain → Inputs → Result (List Entry) ℕ → Option Run
run_loaded script inputs (Ok variables) = Some (run_with script inputs variables)
run_loaded script inputs (Err at) = None

-- the run of a script over the files of its images and its store; none where the store is refused
abbrev pub run_of : Plain → Inputs → Option Run
run_of script inputs = run_loaded script inputs (variables_in inputs.store)

-- A step was made so.
pub record Made (whole : Stepped) (course : Course) (running : Running) : Type 0 where
  pub is_course : course ≡ whole.course
  pub is_running : running ≡ whole.running

-- A run was made so, with its lines put.
pub record Ran (whole : Run) (halted : Bool) (old new : Option (List ℕ)) : Type 0 where
  pub is_halted : halted ≡ whole.halted
  pub put : new ≡ grown old (bytes_of whole.lines)

-- What a run came to: its lines were put whole, and its last line is a halt or not; or a part of them was put, since a put
-- failed in this call or memory was wanting.
abbrev pub Ends : Run → Outcome → Option (List ℕ) → ℕ → Option (List ℕ) → ℕ → Type 0
Ends run outcomes.Done old faults new faults' = Ran run false old new
Ends run outcomes.Halted old faults new faults' = Ran run true old new
Ends run outcomes.Store old faults new faults' = ⊥
Ends run outcomes.Write old faults new faults' = Rose faults faults' × GrownByPart old (bytes_of run.lines) new
Ends run outcomes.Memory old faults new faults' = GrownByPart old (bytes_of run.lines) new

-- The same of a script, which has no run where its store is refused: then nothing was put.
abbrev pub RunGives : Option Run → Outcome → Option (List ℕ) → ℕ → Option (List ℕ) → ℕ → Type 0
RunGives (Some run) outcome old faults new faults' = Ends run outcome old faults new faults'
RunGives None outcome old faults new faults' = ((outcome ≡ outcomes.Store) ⊎ (outcome ≡ outcomes.Memory)) × (new ≡ old)
