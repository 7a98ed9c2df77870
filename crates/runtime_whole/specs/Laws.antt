-- What the definitions come to.
use Rattle.std.specs.Prelude.{ℕ, ◌≤◌, ◌<◌, List, [], Option, Result}
use Rattle.std.specs.List.{All}
use Rattle.rv_step.specs.declared.ends.StepEnd.{StepEnd}
use Rattle.guest_memory.specs.declared.rights.Rights.{Rights}
use Rattle.guest_memory.specs.Pages.{Pages}
use Rattle.guest_memory.specs.Pages as memory
use Rattle.page_alloc.specs.Pages as pages
use Rattle.event_queue.specs.Queue as events
use Rattle.event_queue.specs.Queue.{EventList}
use Rattle.address_view.specs.Stored.{stored}
use Rattle.virtual_map.specs.States.{Runtime, SameParts}
use Rattle.virtual_map.specs.Instructions.{CarriesOut}
use Rattle.runtime_turn.specs.declared.call.RtEnd.{RtEnd}
use Rattle.runtime_turn.specs.Turns.{TurnEnds}
use Rattle.map_transition.specs.Laws.{StayTouched}
use Rattle.map_transition.specs.Wholes.{Whole}
use Rattle.pool_alloc.specs.Pool.{IsPool, Together}
use Rattle.protocol_db.specs.Calls.{Installation}
use Rattle.image_services.specs.declared.refusal.LoadRefusal.{LoadRefusal}
use Rattle.image_services.specs.declared.refusal.UnloadRefusal.{UnloadRefusal}
use Rattle.image_services.specs.Images.{Loaded, with_started}
use Rattle.image_services.specs.Stores.{Store}
use Rattle.image_services.specs.Loads.{load_counting}
use Rattle.image_services.specs.Unloads.{discarded, unloaded}
use Rattle.image_services.specs.Views.{LoadGives, UnloadGives}
use Rattle.runtime_whole.specs.Boots.{BootWhole, StoreWhole}
use Rattle.runtime_whole.specs.Guards.{LeavesGuarded}
use Rattle.runtime_whole.specs.Ends.{IsOpened, boot_ended}

-- At opening no image is loaded, and whatever handles were made.
abbrev pub OpeningIsWhole : Type 0
OpeningIsWhole = (m : Pages) (rights : Rights) (r : Runtime) (made : ℕ) → IsOpened m rights r → BootWhole r [] made

-- Handles may be made.
abbrev pub HandlesKeep : Type 0
HandlesKeep = (r : Runtime) (images : List Loaded) (made later : ℕ) → BootWhole r images made → made ≤ later → BootWhole r images later

-- Images may be started.
abbrev pub StartsKeep : Type 0
StartsKeep = (r : Runtime) (images : List Loaded) (made handle : ℕ) → BootWhole r images made → BootWhole r (with_started images handle) made

-- What leaves guarded pages as they are keeps the state so.
abbrev pub GuardedSuffice : Type 0
GuardedSuffice = (old new : Runtime) (images : List Loaded) (made : ℕ) → BootWhole old images made → LeavesGuarded old new → BootWhole new images made

-- Where at most bytes change and pages are touched, it stays so.
abbrev pub WritesKeep : Type 0
WritesKeep = (old new : Runtime) (images : List Loaded) (made : ℕ) → BootWhole old images made → SameParts old new → StayTouched old.memory new.memory → BootWhole new images made

-- So it does where bytes are stored at addresses that show memory by any view, and where an instruction ends, however.
abbrev pub StoresKeep : Type 0
StoresKeep = (r : Runtime) (images : List Loaded) (made : ℕ) (shown : ℕ → Option ℕ) (at : ℕ) (bytes : List ℕ) → BootWhole r images made
    → BootWhole (record r { memory = stored shown r.memory at bytes }) images made

abbrev pub InstructionsKeep : Type 0
InstructionsKeep = (end : StepEnd) (x : List ℕ) (pc : ℕ) (r : Runtime) (x2 : List ℕ) (pc2 : ℕ) (r2 : Runtime) (images : List Loaded) (made : ℕ) → BootWhole r images made
    → SameParts r r2 → CarriesOut end x pc r x2 pc2 r2 → BootWhole r2 images made

-- It stays so where an image file, whose numbers are bytes, is loaded, or refused, or where the host lacks memory for it.
abbrev pub LoadsKeep : Type 0
LoadsKeep = (r : Runtime) (s after : Store) (file : List ℕ) (parent : ℕ) (also : List ℕ) (result : Result Installation LoadRefusal) → StoreWhole r s → pages.Whole s.pages → memory.Whole s.memory
    → All (λ (byte : ℕ). byte < 256) file → LoadGives result (load_counting r.layout s file parent also) s after → StoreWhole r after

-- It stays so where an image is discarded, known or not, and where one is unloaded, or not.
abbrev pub DiscardsKeep : Type 0
DiscardsKeep = (r : Runtime) (s : Store) (handle : ℕ) → StoreWhole r s → pages.Whole s.pages → IsPool s.pool → Together s.pool s.pages → StoreWhole r (discarded s handle)

abbrev pub UnloadsKeep : Type 0
UnloadsKeep = (r : Runtime) (s after : Store) (handle : ℕ) (result : Result (Unit {0}) UnloadRefusal) → StoreWhole r s → pages.Whole s.pages → IsPool s.pool → Together s.pool s.pages
    → UnloadGives result (unloaded s handle) s after → StoreWhole r after

-- The end of boot services makes a whole state.
abbrev pub EndIsWhole : Type 0
EndIsWhole = (r : Runtime) (images : List Loaded) (made : ℕ) (s : EventList) → BootWhole r images made → memory.Whole r.memory → events.Whole s → Whole (boot_ended r images s)

-- It stays whole where bytes are stored, and where an instruction or a turn at run time ends, however.
abbrev pub StoresStayWhole : Type 0
StoresStayWhole = (r : Runtime) (shown : ℕ → Option ℕ) (at : ℕ) (bytes : List ℕ) → Whole r → Whole (record r { memory = stored shown r.memory at bytes })

abbrev pub InstructionsStayWhole : Type 0
InstructionsStayWhole = (end : StepEnd) (x : List ℕ) (pc : ℕ) (r : Runtime) (x2 : List ℕ) (pc2 : ℕ) (r2 : Runtime) → Whole r → SameParts r r2 → CarriesOut end x pc r x2 pc2 r2 → Whole r2

abbrev pub TurnsStayWhole : Type 0
TurnsStayWhole = (end : RtEnd) (x : List ℕ) (pc : ℕ) (r : Runtime) (x2 : List ℕ) (pc2 : ℕ) (r2 : Runtime) → Whole r → SameParts r r2 → TurnEnds end x pc r x2 pc2 r2 → Whole r2
