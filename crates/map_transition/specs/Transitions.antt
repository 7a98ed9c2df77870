-- A virtual address map is made (UEFI 2.10, section 8.4: SetVirtualAddressMap).
use Rattle.std.specs.Prelude.{ℕ, ◌≡◌, ◌+◌, ◌⊎◌, true, List, [], ◌∷◌, map, Option, Some, None, Result, Ok, Err}
use Rattle.page_alloc.specs.declared.layout.Layout.{Layout}
use Rattle.memory_map.specs.declared.descriptor.Descriptor.{Descriptor}
use Rattle.guest_memory.specs.Pages.{Pages, bytes_of}
use Rattle.guest_memory.specs.Changes.{put_part}
use Rattle.system_tables.specs.Tables.{moved}
use Rattle.system_tables.specs.Memory.{page_bytes}
use Rattle.event_queue.specs.declared.event.Notify.{Notify}
use Rattle.map_faults.specs.Grounds.{Kept, Call}
use Rattle.map_faults.specs.Faults.{first_fault}
use Rattle.virtual_map.specs.States.{Runtime}
use Rattle.runtime_turn.specs.declared.halt.Halt.{Halt}
use Rattle.runtime_turn.specs.declared.function.CallEnd.{CallEnd}
use Rattle.runtime_turn.specs.declared.function.CallEnd.TheVariants as calls
use Rattle.runtime_turn.specs.Functions.{ground_of, run_function, run_lacks, registers_for, most_steps}
use Rattle.runtime_view.specs.Views.{virtual_of, view_after}
use Rattle.map_transition.specs.declared.ends.TransitionEnd.{TransitionEnd}
use Rattle.map_transition.specs.declared.ends.TransitionEnd.TheVariants.{Refused, Halted, LacksMemory}
use Rattle.map_transition.specs.Fixes.{all_marked, with_fixed}

-- how it ends, in so many steps or by a halt, with the state behind it
pub record Changed : Type 0 where
  pub end : Result ℕ Halt
  pub runtime : Runtime

-- ---- the functions

abbrev pub plus_steps : ℕ → Result ℕ Halt → Result ℕ Halt
plus_steps n (Ok steps) = Ok (n + steps)
plus_steps n (Err halt) = Err halt

abbrev pub after_steps : ℕ → Changed → Changed
after_steps n c = record { end = plus_steps n c.end; runtime = c.runtime }

-- a function that returned is followed by the others
abbrev pub followed_by : Option Halt → ℕ → Runtime → Changed → Changed
followed_by (Some halt) steps r rest = record { end = Err halt; runtime = r }
followed_by None steps r rest = after_steps steps rest

-- All functions run in their order, each in the old view, and with its stack below an address. The first that is halted is
-- the last that runs.
unfoldable pub run_all : List Descriptor → ℕ → List Notify → Runtime → Changed
run_all entries sp [] r = record { end = Ok 0; runtime = r }
run_all entries sp (notify ∷ notifies) r =
    let ran = run_function entries sp notify r in
    followed_by ran.halt ran.steps ran.runtime (run_all entries sp notifies ran.runtime)

-- the host may lack memory in one of them, behind those that returned
unfoldable pub some_lacks : List Descriptor → ℕ → List Notify → Runtime → Type 0
some_lacks entries sp [] r = ⊥
some_lacks entries sp (notify ∷ notifies) r =
    let ran = run_function entries sp notify r in
    run_lacks most_steps entries (registers_for r.layout sp notify) notify.function r ⊎ ((ran.halt ≡ None) × some_lacks entries sp notifies ran.runtime)

-- A run of all functions that ends so leads from a state to another.
abbrev pub AllGive : Result ℕ CallEnd → List Descriptor → (sp : ℕ) → (r r2 : Runtime) → Type 0
AllGive (Ok steps) entries sp r r2 = record { end = Ok steps; runtime = r2 } ≡ run_all entries sp r.notifies r
AllGive (Err (calls.Halted halt)) entries sp r r2 = record { end = Err halt; runtime = r2 } ≡ run_all entries sp r.notifies r
AllGive (Err calls.LacksMemory) entries sp r r2 = some_lacks entries sp r.notifies r

-- what is so of a state unless memory was wanting
abbrev pub UnlessLacking : Result ℕ CallEnd → Type 0 → Type 0
UnlessLacking (Ok steps) P = P
UnlessLacking (Err (calls.Halted halt)) P = P
UnlessLacking (Err calls.LacksMemory) P = Unit {0}

-- ---- what moves

-- The pointers of the system table and of the runtime services table become those to the system page and the slot page as
-- seen from now on, whatever they were.
abbrev pub with_tables : Layout → List Descriptor → Pages → Pages
with_tables layout entries m =
    put_part m layout.system (moved (virtual_of entries layout.system) (virtual_of entries layout.slots) (page_bytes m layout.system))

-- the words of the images, then the tables, then the view. The room for the view's windows is used up.
abbrev pub words_moved : List Descriptor → Runtime → Runtime
words_moved entries r = record r { memory = with_fixed entries r.kept r.memory }

abbrev pub tables_moved : List Descriptor → Runtime → Runtime
tables_moved entries r = record r { memory = with_tables r.layout entries r.memory }

abbrev pub seen_by : List Descriptor → Runtime → Runtime
seen_by entries r = record r { view = view_after r.layout r.descriptors entries r.os_virtual; mapped = true; room = 0 }

abbrev pub all_moved : List Descriptor → Runtime → Runtime
all_moved entries r = seen_by entries (tables_moved entries (words_moved entries r))

abbrev pub moved_by : List Descriptor → Result ℕ Halt → Runtime → Changed
moved_by entries (Ok steps) r = record { end = Ok steps; runtime = all_moved entries r }
moved_by entries (Err halt) r = record { end = Err halt; runtime = r }

-- ---- all

-- Which words have their load values is asked before the first function runs.
abbrev pub begun : Runtime → Runtime
begun r = record r { kept = all_marked (bytes_of r.memory) r.kept }

-- what an accepted map makes of a state, where functions have their stacks below an address
unfoldable pub transition_of : List Descriptor → ℕ → Runtime → Changed
transition_of entries sp r =
    let ran = run_all entries sp r.notifies (begun r) in
    moved_by entries ran.end ran.runtime

-- The making of an accepted map that ends so leads from a state to another.
abbrev pub MadeGives : Result ℕ CallEnd → List Descriptor → (sp : ℕ) → (r r2 : Runtime) → Type 0
MadeGives (Ok steps) entries sp r r2 = record { end = Ok steps; runtime = r2 } ≡ transition_of entries sp r
MadeGives (Err (calls.Halted halt)) entries sp r r2 = record { end = Err halt; runtime = r2 } ≡ transition_of entries sp r
MadeGives (Err calls.LacksMemory) entries sp r r2 = some_lacks entries sp r.notifies (begun r)

-- Functions have their stacks below an address that is given, or below the top of the operating system's stack.
abbrev pub stack_of : Layout → Option ℕ → ℕ
stack_of layout None = layout.os_args
stack_of layout (Some sp) = sp

-- A transition that ends so leads from a state to another.
abbrev pub TransitionGives : Result ℕ TransitionEnd → Call → (sp : ℕ) → (r r2 : Runtime) → Type 0
TransitionGives (Ok steps) call sp r r2 = (first_fault (ground_of r) call ≡ None) × MadeGives (Ok steps) call.entries sp r r2
TransitionGives (Err (Refused fault)) call sp r r2 = (first_fault (ground_of r) call ≡ Some fault) × (r2 ≡ r)
TransitionGives (Err (Halted halt)) call sp r r2 = (first_fault (ground_of r) call ≡ None) × MadeGives (Err (calls.Halted halt)) call.entries sp r r2
TransitionGives (Err LacksMemory) call sp r r2 = (first_fault (ground_of r) call ≡ None) × MadeGives (Err calls.LacksMemory) call.entries sp r r2

abbrev pub UnlessMemory : Result ℕ TransitionEnd → Type 0 → Type 0
UnlessMemory (Ok steps) P = P
UnlessMemory (Err (Refused fault)) P = P
UnlessMemory (Err (Halted halt)) P = P
UnlessMemory (Err LacksMemory) P = Unit {0}

-- ---- what stays

abbrev pub without_marks : Kept → Kept
without_marks image = record image { same = [] }

-- However it ends: where RAM lies, how its pages are used, which images and functions there are.
pub record Stays (old new : Runtime) : Type 0 where
  pub layout : new.layout ≡ old.layout
  pub base : new.memory.base ≡ old.memory.base
  pub count : new.memory.pages ≡ old.memory.pages
  pub page_map : new.pages ≡ old.pages
  pub descriptors : new.descriptors ≡ old.descriptors
  pub images : map without_marks new.kept ≡ map without_marks old.kept
  pub functions : new.notifies ≡ old.notifies
  pub gone : new.gone ≡ old.gone
  pub os_virtual : new.os_virtual ≡ old.os_virtual
