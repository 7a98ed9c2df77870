-- What the stages of a command answer, and why.
use Rattle.std.specs.Prelude.{ℕ, ◌≡◌, ◌≤◌, List, Option, Result, Ok, Err, string_bytes}
use Rattle.uh_base.specs.Told.{FileMap}
use Rattle.guest_build.specs.Assembled.{assembled}
use Rattle.image_dump.specs.declared.stop.Stop.{Stop}
use Rattle.image_dump.specs.declared.stop.Stop.TheVariants as stops
use Rattle.host_engine.specs.declared.assembly.Unassembled.{Unassembled}
use Rattle.host_engine.specs.declared.assembly.Unassembled.TheVariants.{Refused, Memory}
use Rattle.host_engine.specs.declared.code.Code.{Code}
use Rattle.host_engine.specs.declared.code.Code.TheVariants as code
use Rattle.host_engine.specs.declared.refusal.Refusal.{Refusal}
use Rattle.host_engine.specs.declared.refusal.Refusal.TheVariants as refusals
use Rattle.host_engine.specs.Assemblies.{Made, in_words}
use Rattle.host_engine.specs.Gives.{CommandGives}
use Rattle.host_engine.specs.Outside.{outside}
use Rattle.host_engine.specs.Plans.{Plan}

-- Reads leave what files tell, and no count falls.
pub record Onward (told told' : Option FileMap) (faults faults' longs longs' : ℕ) : Type 0 where
  pub told_same : told' ≡ told
  pub faults_up : faults ≤ faults'
  pub longs_up : longs ≤ longs'

-- A plan is refused while its files are read, whatever the output is: nothing is put. `faults` and `longs` are the counts
-- before, and the others those behind.
abbrev pub Refuses : Plan → Refusal → (told : Option FileMap) → (faults longs faults' longs' : ℕ) → Type 0
Refuses plan refusal told faults longs faults' longs' =
    (told' : Option FileMap) (out : Option (List ℕ)) (out_faults : ℕ) → CommandGives plan (Err refusal) (outside told faults longs out out_faults) (outside told' faults' longs' out out_faults)

-- A text is refused in these words, unless memory was wanting.
abbrev pub IsWhy : {Y : Type 0} → Unassembled → Result Y (List ℕ) → Type 0
IsWhy (Refused text) wanted = wanted ≡ Err (string_bytes text)
IsWhy Memory wanted = Unit {0}

abbrev pub refusal_of : Unassembled → Refusal
refusal_of (Refused text) = refusals.Assembly text
refusal_of Memory = refusals.Memory

-- A script is refused in these words, unless memory was wanting.
abbrev pub IsScriptRefusal : List ℕ → Refusal → Type 0
IsScriptRefusal wanted (refusals.Script text) = string_bytes text ≡ wanted
IsScriptRefusal wanted refusals.Memory = Unit {0}
IsScriptRefusal wanted refusal = ⊥

-- why lines on an image file weren't put whole
abbrev pub stop_refusal : Stop → Refusal
stop_refusal stops.Write = refusals.Write
stop_refusal stops.Memory = refusals.Memory

-- Texts are assembled to this, seen by view, or refused.
abbrev pub AssemblyGives : {X Y : Type 0} → (X → Y) → Result X Unassembled → Result Y (List ℕ) → Type 0
AssemblyGives view (Ok made) wanted = wanted ≡ Ok (view made)
AssemblyGives view (Err why) wanted = IsWhy why wanted

-- what an image is made to, by its file's bytes or its text
abbrev pub made : Code → Made
made (code.File image) = Ok image.bytes.items
made (code.Text listing) = in_words listing.name.now (assembled listing.text.now)
