-- The functions that are notified of the virtual address change (UEFI 2.10, sections 7.1 and 8.4: they may call
-- ConvertPointer).
use Rattle.std.specs.Prelude.{ℕ, zero, suc, ◌≡◌, ◌+◌, ◌*◌, ◌-◌, ◌%◌, ◌==◌, ◌&&◌, ◌⊎◌, nat_le, false, List, Option, Some, None, Result, Ok, Err, if◌then◌else◌, replicate, slice_index, slice_set}
use Rattle.uh_base.specs.Statuses.{success, invalid_parameter, unsupported, not_found}
use Rattle.record_text.specs.declared.cause.Cause.{Cause}
use Rattle.record_text.specs.declared.cause.Cause.TheVariants as causes
use Rattle.rv_step.specs.declared.bus.Access.TheVariants as access
use Rattle.rv_step.specs.declared.ends.Trap.{Trap}
use Rattle.rv_step.specs.declared.ends.Trap.TheVariants as traps
use Rattle.rv_step.specs.declared.ends.StepEnd.{StepEnd}
use Rattle.rv_step.specs.declared.ends.StepEnd.TheVariants as ends
use Rattle.page_alloc.specs.declared.layout.Layout.{Layout}
use Rattle.memory_map.specs.declared.descriptor.Descriptor.{Descriptor}
use Rattle.guest_memory.specs.Pages.{Pages}
use Rattle.guest_call.specs.Arguments.{argument}
use Rattle.guest_call.specs.Checks.{can_write, number_seen}
use Rattle.address_view.specs.Windows.{see}
use Rattle.address_view.specs.Stored.{store_seen, lacks_seen, all_touched}
use Rattle.event_queue.specs.declared.event.Notify.{Notify}
use Rattle.map_faults.specs.declared.pointer.ConvertRefusal.{ConvertRefusal}
use Rattle.map_faults.specs.declared.pointer.ConvertRefusal.TheVariants.{Null, NotFound}
use Rattle.map_faults.specs.Grounds.{Ground}
use Rattle.map_faults.specs.Pointers.{converted}
use Rattle.virtual_map.specs.States.{Runtime}
use Rattle.virtual_map.specs.Instructions.{Carried, carried, outcome_of, MayLackMemory}
use Rattle.runtime_turn.specs.declared.halt.Halt.{Halt}
use Rattle.runtime_turn.specs.declared.function.CallTurn.{CallTurn}
use Rattle.runtime_turn.specs.declared.function.CallTurn.TheVariants.{Goes, Returns, Halts, Memory}
use Rattle.runtime_turn.specs.declared.function.CallEnd.{CallEnd}
use Rattle.runtime_turn.specs.declared.function.CallEnd.TheVariants.{Halted, LacksMemory}
use Rattle.runtime_turn.specs.Turns.{slot_seen}

-- how a turn of a function ends, with the registers, the program counter and the state behind it
pub record Turned : Type 0 where
  pub end : CallTurn
  pub x : List ℕ
  pub pc : ℕ
  pub runtime : Runtime

abbrev pub halts : Cause → ℕ → ℕ → CallTurn
halts cause pc at = Halts (record { cause = cause; pc = pc; at = at })

-- what a trap of an instruction comes to
abbrev pub trapped : Trap → ℕ → CallTurn
trapped traps.Illegal pc = halts causes.Illegal pc 0
trapped traps.Ebreak pc = halts causes.Ebreak pc 0
trapped traps.Ecall pc = halts causes.Ecall pc 0
trapped (traps.Fault at access.Load) pc = halts causes.Load pc at
trapped (traps.Fault at access.Store) pc = halts causes.Store pc at
trapped (traps.Fault at access.Fetch) pc = halts causes.Fetch pc at

abbrev pub end_by : StepEnd → ℕ → CallTurn
end_by ends.Next pc = Goes
end_by (ends.Trap trap) pc = trapped trap pc
end_by ends.Frames pc = halts causes.Frames pc 0
end_by ends.Memory pc = Memory

abbrev pub by_carried : ℕ → Carried → Turned
by_carried pc c = record { end = end_by c.end pc; x = c.x; pc = c.pc; runtime = c.runtime }

-- ---- services

-- what a map is judged by
abbrev pub ground_of : Runtime → Ground
ground_of r = record { layout = r.layout; descriptors = r.descriptors; os_virtual = r.os_virtual; kept = r.kept; gone = r.gone; mapped = r.mapped }

-- a service answers in a0, which is register 10, and continues at ra, which is register 1
abbrev pub answers : ℕ → List ℕ → Runtime → Turned
answers a0 x r = record { end = Goes; x = slice_set x 10 a0; pc = slice_index x 1; runtime = r }

abbrev pub halts_at : Cause → List ℕ → ℕ → Runtime → Turned
halts_at cause x pc r = record { end = halts cause pc 0; x = x; pc = pc; runtime = r }

-- ConvertPointer(flags, *pointer8), where the pointer may be written: what it comes to
abbrev pub convert_by : Result ℕ ConvertRefusal → List ℕ → ℕ → Runtime → Turned
convert_by (Err Null) x pc r = answers invalid_parameter x r
convert_by (Err NotFound) x pc r = answers not_found x r
convert_by (Ok value) x pc r =
    if lacks_seen (see r.view) r.memory (argument 1 x) 8 then halts_at causes.Frames x pc r
    else answers success x (record r { memory = store_seen (see r.view) r.memory (argument 1 x) 8 value })

unfoldable pub convert_pointer : List Descriptor → List ℕ → ℕ → Runtime → Turned
convert_pointer entries x pc r =
    if can_write (see r.view) r.memory (argument 1 x) 8
    then convert_by (converted entries (argument 0 x) (number_seen (see r.view) r.memory (argument 1 x) 8)) x pc r
    else answers invalid_parameter x r

-- want of memory comes where the store may lack it alone
abbrev pub StoreLacks : List ℕ → Runtime → Type 0
StoreLacks x r = (lacks_seen (see r.view) r.memory (argument 1 x) 8 ≡ false) × (all_touched (see r.view) r.memory (argument 1 x) 8 ≡ false)

abbrev pub ConvertGives : CallTurn → List Descriptor → (x : List ℕ) → (pc : ℕ) → (r : Runtime) → (x2 : List ℕ) → (pc2 : ℕ) → (r2 : Runtime) → Type 0
ConvertGives Memory entries x pc r x2 pc2 r2 = StoreLacks x r
ConvertGives end entries x pc r x2 pc2 r2 = record { end = end; x = x2; pc = pc2; runtime = r2 } ≡ convert_pointer entries x pc r

abbrev pub StoredBy : CallTurn → (value : ℕ) → (x : List ℕ) → (pc : ℕ) → (r : Runtime) → (x2 : List ℕ) → (pc2 : ℕ) → (r2 : Runtime) → Type 0
StoredBy Memory value x pc r x2 pc2 r2 = StoreLacks x r
StoredBy end value x pc r x2 pc2 r2 = record { end = end; x = x2; pc = pc2; runtime = r2 } ≡ convert_by (Ok value) x pc r

-- Slots 44 to 57 are runtime services. Boot services and the console are gone.
abbrev pub serve : List Descriptor → ℕ → List ℕ → ℕ → Runtime → Turned
serve entries slot x pc r =
    if slot == 67 then record { end = Returns; x = x; pc = pc; runtime = r }
    else (if slot == 49 then convert_pointer entries x pc r
    else (if nat_le 44 slot && nat_le slot 57 then answers unsupported x r
    else halts_at causes.BootGone x pc r))

-- ---- one turn

abbrev pub by_slot : Option ℕ → List Descriptor → List ℕ → ℕ → Runtime → Turned
by_slot (Some slot) entries x pc r = serve entries slot x pc r
by_slot None entries x pc r = by_carried pc (carried x pc r)

unfoldable pub function_turn : List Descriptor → List ℕ → ℕ → Runtime → Turned
function_turn entries x pc r = by_slot (slot_seen r pc) entries x pc r

-- a turn may lack memory of the host: a store to a page that isn't touched, where there are frames enough
abbrev pub MayLack : Option ℕ → List ℕ → ℕ → Runtime → Type 0
MayLack (Some slot) x pc r = (slot ≡ 49) × StoreLacks x r
MayLack None x pc r = MayLackMemory r (outcome_of x pc r)

abbrev pub ServeGives : CallTurn → List Descriptor → (slot : ℕ) → (x : List ℕ) → (pc : ℕ) → (r : Runtime) → (x2 : List ℕ) → (pc2 : ℕ) → (r2 : Runtime) → Type 0
ServeGives Memory entries slot x pc r x2 pc2 r2 = MayLack (Some slot) x pc r
ServeGives end entries slot x pc r x2 pc2 r2 = record { end = end; x = x2; pc = pc2; runtime = r2 } ≡ serve entries slot x pc r

-- A turn of a function that ends so leads from old to new.
abbrev pub TurnGives : CallTurn → List Descriptor → (x : List ℕ) → (pc : ℕ) → (r : Runtime) → (x2 : List ℕ) → (pc2 : ℕ) → (r2 : Runtime) → Type 0
TurnGives Memory entries x pc r x2 pc2 r2 = MayLack (slot_seen r pc) x pc r
TurnGives end entries x pc r x2 pc2 r2 = record { end = end; x = x2; pc = pc2; runtime = r2 } ≡ function_turn entries x pc r

-- ---- a function, and all of them

-- a function has so many steps at most, by this host's choice
abbrev pub most_steps : ℕ
most_steps = 1000000

-- how functions end, in how many steps, with the state behind them
pub record Ran : Type 0 where
  pub halt : Option Halt
  pub steps : ℕ
  pub runtime : Runtime

abbrev pub halted : Halt → Runtime → Ran
halted halt r = record { halt = Some halt; steps = 0; runtime = r }

-- A turn counts a step, and so does the return.
abbrev pub goes_on : CallTurn → ℕ → Runtime → Ran → Ran
goes_on Goes left r rest = rest
goes_on Returns left r rest = record { halt = None; steps = most_steps - left; runtime = r }
goes_on (Halts halt) left r rest = halted halt r
goes_on Memory left r rest = rest

-- with so many steps left
unfoldable pub run_from : ℕ → List Descriptor → List ℕ → ℕ → Runtime → Ran
run_from zero entries x pc r = halted (record { cause = causes.Bound; pc = pc; at = 0 }) r
run_from (suc left) entries x pc r =
    let t = function_turn entries x pc r in
    goes_on t.end left t.runtime (run_from left entries t.x t.pc t.runtime)

-- A function is given its event and its context, returns to slot 67, and has its stack below an address.
abbrev pub registers_for : Layout → ℕ → Notify → List ℕ
registers_for layout sp notify = slice_set (slice_set (slice_set (slice_set (replicate 32 0) 1 (layout.slots + 16 * 67)) 2 (sp - sp % 16)) 10 notify.event) 11 notify.context

unfoldable pub run_function : List Descriptor → ℕ → Notify → Runtime → Ran
run_function entries sp notify r = run_from most_steps entries (registers_for r.layout sp notify) notify.function r

-- a turn of the run may lack memory of the host
unfoldable pub run_lacks : ℕ → List Descriptor → List ℕ → ℕ → Runtime → Type 0
run_lacks zero entries x pc r = ⊥
run_lacks (suc left) entries x pc r =
    let t = function_turn entries x pc r in
    MayLack (slot_seen r pc) x pc r ⊎ ((t.end ≡ Goes) × run_lacks left entries t.x t.pc t.runtime)

-- A run with so many steps left, which ends so, leads from a state to another.
abbrev pub RunEnds : Result ℕ CallEnd → (left : ℕ) → List Descriptor → (x : List ℕ) → (pc : ℕ) → (r r2 : Runtime) → Type 0
RunEnds (Ok steps) left entries x pc r r2 = record { halt = None; steps = steps; runtime = r2 } ≡ run_from left entries x pc r
RunEnds (Err (Halted halt)) left entries x pc r r2 = record { halt = Some halt; steps = 0; runtime = r2 } ≡ run_from left entries x pc r
RunEnds (Err LacksMemory) left entries x pc r r2 = run_lacks left entries x pc r

-- A function's run that ends so leads from a state to another.
abbrev pub RunGives : Result ℕ CallEnd → List Descriptor → (sp : ℕ) → (notify : Notify) → (r r2 : Runtime) → Type 0
RunGives (Ok steps) entries sp notify r r2 = record { halt = None; steps = steps; runtime = r2 } ≡ run_function entries sp notify r
RunGives (Err (Halted halt)) entries sp notify r r2 = record { halt = Some halt; steps = 0; runtime = r2 } ≡ run_function entries sp notify r
RunGives (Err LacksMemory) entries sp notify r r2 = run_lacks most_steps entries (registers_for r.layout sp notify) notify.function r
