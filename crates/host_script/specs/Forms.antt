-- What every script that is read keeps, whatever document says it.
use Rattle.std.specs.Prelude.{◌≡◌, ◌≤◌, ◌++◌, ℕ, List, [], ◌∷◌, length, true, false, Some, Ok}
use Rattle.uh_base.specs.Names.{is_name}
use Rattle.host_script.specs.declared.script.ImageSpec.{ImageSpec}
use Rattle.host_script.specs.declared.script.Origin.{Origin}
use Rattle.host_script.specs.declared.script.Origin.TheVariants.{File, Text}
use Rattle.host_script.specs.declared.script.Step.{Step}
use Rattle.host_script.specs.declared.script.Step.TheVariants.{Load, Unload, Start, ExitBoot, Check, Map, Call, Peek, MemMap, Vars}
use Rattle.host_script.specs.declared.script.Buffer.{Buffer}
use Rattle.host_script.specs.declared.script.Shown.{Shown}
use Rattle.host_script.specs.declared.script.Target.{Target}
use Rattle.host_script.specs.declared.script.Target.TheVariants as targets
use Rattle.record_text.specs.Services.{service_slot}
use Rattle.host_script.specs.Steps.{MapPlain, CallPlain}
use Rattle.host_script.specs.Words.{is_buffer, is_shown}
use Rattle.host_script.specs.Plain.{Plain}
use Rattle.host_script.specs.Settings.{is_time, rises}
use Rattle.host_script.specs.Script.{has_image, is_ram_base, text_limit, map_limit, script_in}

-- An assembly text has at most 4 MiB.
abbrev pub IsOrigin : Origin → Type 0
IsOrigin (File name) = Unit {0}
IsOrigin (Text text) = length text ≤ text_limit

-- Each image has a name, which none before it has, and a file or a text.
abbrev pub AreImages : List ImageSpec → List ImageSpec → Type 0
AreImages before [] = Unit {0}
AreImages before (image ∷ images) = (is_name image.name ≡ true) × (has_image before image.name ≡ false) × IsOrigin image.origin × AreImages (before ++ image ∷ []) images

-- Each item is so.
abbrev pub Each : {A : Type 0} → (A → Type 0) → List A → Type 0
Each P [] = Unit {0}
Each P (x ∷ xs) = P x × Each P xs

-- The slot is that of a service, which has this name.
pub record IsSlot (slot : ℕ) : Type 0 where
  pub name : List ℕ
  pub is : service_slot name ≡ Some slot

-- A call is of an image that the script names, or of a service.
abbrev pub IsTarget : List ImageSpec → Target → Type 0
IsTarget images (targets.Image image at) = has_image images image ≡ true
IsTarget images (targets.Service slot) = IsSlot slot

-- A buffer has a byte or more, and ends at most at 65,536; so does what is shown, which has at most 4,096 bytes.
abbrev pub IsBuffer : Buffer → Type 0
IsBuffer buffer = is_buffer buffer.offset buffer.hex ≡ true

abbrev pub IsShown : Shown → Type 0
IsShown shown = is_shown shown.offset shown.len ≡ true

pub record IsCall (images : List ImageSpec) (call : CallPlain) : Type 0 where
  pub target : IsTarget images call.target
  pub few_args : length call.args ≤ 8
  pub few_buffers : length call.buffers ≤ 16
  pub buffers : Each IsBuffer call.buffers
  pub few_shown : length call.show ≤ 16
  pub shown : Each IsShown call.show
  pub some_steps : 1 ≤ call.bound
  pub few_steps : call.bound ≤ 50000000

pub record IsMap (map : MapPlain) : Type 0 where
  pub few_entries : length map.entries ≤ 1024
  pub size : map.size ≤ map_limit
  pub version : map.version ≤ map_limit

-- A step names an image of the script, and keeps its bounds.
abbrev pub IsStep : List ImageSpec → Step → Type 0
IsStep images (Load image) = has_image images image ≡ true
IsStep images (Unload image) = has_image images image ≡ true
IsStep images (Start image bound) = (has_image images image ≡ true) × (1 ≤ bound) × (bound ≤ 50000000)
IsStep images (ExitBoot image key) = has_image images image ≡ true
IsStep images (Check image origin) = (has_image images image ≡ true) × IsOrigin origin
IsStep images (Map map) = IsMap map
IsStep images (Call call) = IsCall images call
IsStep images (Peek at len) = (1 ≤ len) × (len ≤ 4096)
IsStep images MemMap = Unit {0}
IsStep images Vars = Unit {0}

abbrev pub AreSteps : List ImageSpec → List Step → Type 0
AreSteps images [] = Unit {0}
AreSteps images (step ∷ steps) = IsStep images step × AreSteps images steps

-- a script that there is
pub record IsScript (script : Plain) : Type 0 where
  pub ram_base : is_ram_base script.ram_pages script.ram_base ≡ true
  pub some_ram : 256 ≤ script.ram_pages
  pub few_ram : script.ram_pages ≤ 4096
  pub time : is_time script.time ≡ true
  pub rise : rises 0 script.ticks ≡ true
  pub few_ticks : length script.ticks ≤ 1024
  pub few_images : length script.image ≤ 16
  pub images : AreImages [] script.image
  pub some_steps : 1 ≤ length script.step
  pub few_steps : length script.step ≤ 4096
  pub steps : AreSteps script.image script.step

-- Every script that is read keeps the forms.
abbrev pub ScriptsKeepForms : Type 0
ScriptsKeepForms = (bytes : List ℕ) (script : Plain) → script_in bytes ≡ Ok script → IsScript script
