-- What a script may ask for and the program doesn't carry out yet: such a script is refused, before any further file is read.
use Rattle.std.specs.Prelude.{ℕ, ◌+◌, List, [], ◌∷◌, Bool, true, false, Option, Some, None, Result, Ok, Err, if◌then◌else◌}
use Rattle.host_script.specs.Faults.{Place}
use Rattle.host_script.specs.Plain.{Plain}
use Rattle.host_script.specs.Script.{script_in}
use Rattle.host_script.specs.declared.fault.ScriptKind.TheVariants as kinds
use Rattle.host_script.specs.declared.script.Step.{Step}
use Rattle.host_script.specs.declared.script.Step.TheVariants as steps

abbrev pub is_given : {A : Type 0} → Option A → Bool
is_given None = false
is_given (Some x) = true

-- The OS window isn't moved yet.
unfoldable pub asks_unbuilt : Plain → Bool
asks_unbuilt script = is_given script.os_virtual

-- No virtual address map is made, and no driver is checked yet.
abbrev pub is_built : Step → Bool
is_built (steps.Load image) = true
is_built (steps.Unload image) = true
is_built (steps.Start image bound) = true
is_built steps.MemMap = true
is_built (steps.ExitBoot image key) = true
is_built (steps.Check image origin) = false
is_built (steps.Map call) = false
is_built (steps.Call call) = true
is_built (steps.Peek at len) = true
is_built steps.Vars = true

-- the first step that isn't built, of steps that are numbered from one number on
abbrev pub unbuilt_step : ℕ → List Step → Option Place
unbuilt_step number [] = None
unbuilt_step number (step ∷ steps) = if is_built step then unbuilt_step (number + 1) steps else Some (number, kinds.Value)

-- where a script asks for what isn't built
unfoldable pub first_unbuilt : Plain → Option Place
first_unbuilt script = if asks_unbuilt script then Some (0, kinds.Value) else unbuilt_step 1 script.step

abbrev pub without_unbuilt : Plain → Option Place → Result Plain Place
without_unbuilt script None = Ok script
without_unbuilt script (Some place) = Err place

abbrev pub built : Result Plain Place → Result Plain Place
built (Ok script) = without_unbuilt script (first_unbuilt script)
built (Err place) = Err place

-- the script that a document says, where it asks for nothing that isn't built
unfoldable pub runnable : List ℕ → Result Plain Place
runnable bytes = built (script_in bytes)
