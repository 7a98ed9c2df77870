-- The script that a document says, or the first thing that is wrong with it.
use Rattle.std.specs.Prelude.{◌+◌, ◌*◌, ◌%◌, ◌^◌, ◌==◌, ◌&&◌, ◌||◌, nat_le, ℕ, List, [], ◌∷◌, ◌++◌, length, codes, Bool, Option, Some, None, Result, Ok, Err, not, unwrap_or, if◌then◌else◌}
use Rattle.std.specs.List.{list_any}
use Rattle.std.specs.Str.{bytes_eq, is_utf8}
use Rattle.toml.specs.Data.{Data, Items, no_items, item, Members, as_table}
use Rattle.toml.specs.Parse.{parse_document}
use Rattle.uh_base.specs.Names.{is_name}
use Rattle.host_script.specs.Faults.{◌>>=◌, Place, placed}
use Rattle.host_script.specs.Plain.{Plain}
use Rattle.host_script.specs.Settings.{Settings, settings_of}
use Rattle.host_script.specs.Steps.{MapPlain, CallPlain}
use Rattle.host_script.specs.Lists.{listed, or_value}
use Rattle.host_script.specs.Words.{entry_of, arg_of, buffer_of, shown_of}
use Rattle.record_text.specs.Services.{service_slot}
use Rattle.host_script.specs.Fields.{only_keys, has_key, text_field, number_field, integer_field, integer_or, tables_field, items_len, counted, needed}
use Rattle.host_script.specs.declared.fault.ScriptKind.{ScriptKind}
use Rattle.host_script.specs.declared.fault.ScriptKind.TheVariants as kinds
use Rattle.host_script.specs.declared.script.Origin.{Origin}
use Rattle.host_script.specs.declared.script.Origin.TheVariants.{File, Text}
use Rattle.host_script.specs.declared.script.ImageSpec.{ImageSpec}
use Rattle.host_script.specs.declared.script.Step.{Step}
use Rattle.host_script.specs.declared.script.Step.TheVariants.{Load, Unload, Start, ExitBoot, Check, Map, Call, Peek, MemMap, Vars}
use Rattle.host_script.specs.declared.script.Target.{Target}
use Rattle.host_script.specs.declared.script.Target.TheVariants as targets

-- an image has the name
abbrev pub has_image : List ImageSpec → List ℕ → Bool
has_image images name = list_any (λ image. bytes_eq image.name name) images

-- an item of a list of tables
abbrev pub table_of : Option Members → Result Members ScriptKind
table_of None = Err kinds.Shape
table_of (Some members) = Ok members

-- ---- the top table

pub record Top : Type 0 where
  pub ram_base : ℕ
  pub ram_pages : ℕ
  pub settings : Settings
  pub images : Items
  pub steps : Items

abbrev pub not_empty : Items → Result Items ScriptKind
not_empty items = if items_len items == 0 then Err kinds.Missing else Ok items

unfoldable pub steps_field : Members → Result Items ScriptKind
steps_field top = (tables_field (codes "step") top >>= not_empty) >>= counted 4096

-- how many pages RAM has
abbrev pub or_4096 : Option ℕ → Result ℕ ScriptKind
or_4096 pages = Ok (unwrap_or pages 4096)

unfoldable pub ram_pages_of : Members → Result ℕ ScriptKind
ram_pages_of top = integer_field (codes "ram_pages") 256 4096 top >>= or_4096

-- the address of the first byte of RAM of so many pages
abbrev pub is_ram_base : ℕ → ℕ → Bool
is_ram_base pages base = base % 4096 == 0 && nat_le 0x100000 base && nat_le (base + 4096 * pages) (2 ^ 46)

abbrev pub base_or : ℕ → Option ℕ → Result ℕ ScriptKind
base_or pages None = Ok 0x40000000
base_or pages (Some base) = if is_ram_base pages base then Ok base else Err kinds.Value

-- A number of pages that is refused is a fault of its own: the address is judged without it.
abbrev pub pages_to_judge : Result ℕ ScriptKind → ℕ
pages_to_judge (Ok pages) = pages
pages_to_judge (Err kind) = 0

unfoldable pub ram_base_of : Members → Result ℕ ScriptKind
ram_base_of top = number_field (codes "ram_base") top >>= base_or (pages_to_judge (ram_pages_of top))

unfoldable pub only_top_keys : Members → Result (Unit {0}) ScriptKind
only_top_keys top =
    only_keys (
    codes "ram_base" ∷ codes "ram_pages" ∷ codes "time" ∷ codes "ticks" ∷ codes "os_virtual" ∷ codes "trace" ∷ codes "store"
    ∷ codes "image" ∷ codes "step" ∷ []
    ) top

unfoldable pub top_of : Members → Result Top ScriptKind
top_of top = do
  _ ← only_top_keys top
  ram_base ← ram_base_of top
  ram_pages ← ram_pages_of top
  settings ← settings_of top
  images ← tables_field (codes "image") top >>= counted 16
  steps ← steps_field top
  Ok (record { ram_base = ram_base; ram_pages = ram_pages; settings = settings; images = images; steps = steps })

-- ---- images, each with those before it

abbrev pub new_name : List ImageSpec → List ℕ → Result (List ℕ) ScriptKind
new_name before name = if is_name name then (if has_image before name then Err kinds.Name else Ok name) else Err kinds.Value

-- the most bytes that an assembly text has
abbrev pub text_limit : ℕ
text_limit = 0x400000

abbrev pub short_text : List ℕ → Result Origin ScriptKind
short_text text = if nat_le (length text) text_limit then Ok (Text text) else Err kinds.Value

-- a file or a text, one of the two
abbrev pub one_of : Option (List ℕ) → Option (List ℕ) → Result Origin ScriptKind
one_of (Some file) None = Ok (File file)
one_of None (Some text) = short_text text
one_of None None = Err kinds.Missing
one_of (Some file) (Some text) = Err kinds.Shape

unfoldable pub origin_of : Members → Result Origin ScriptKind
origin_of image = do
  file ← text_field (codes "file") image
  text ← text_field (codes "text") image
  one_of file text

unfoldable pub image_in : List ImageSpec → Members → Result ImageSpec ScriptKind
image_in before image = do
  _ ← only_keys (codes "name" ∷ codes "file" ∷ codes "text" ∷ []) image
  name ← needed (text_field (codes "name") image) >>= new_name before
  origin ← origin_of image
  Ok (record { name = name; origin = origin })

unfoldable pub image_at : List ImageSpec → Data → Result ImageSpec ScriptKind
image_at before content = table_of (as_table content) >>= image_in before

unfoldable pub images_of : List ImageSpec → Items → Result (List ImageSpec) ScriptKind
images_of before no_items = Ok before
images_of before (item content items) = image_at before content >>= λ image. images_of (before ++ image ∷ []) items

-- ---- steps; `do` is judged first

abbrev pub known_name : List ImageSpec → List ℕ → Result (List ℕ) ScriptKind
known_name images name = if is_name name then (if has_image images name then Ok name else Err kinds.Name) else Err kinds.Value

-- the image of a step
unfoldable pub step_image : List ImageSpec → Members → Result (List ℕ) ScriptKind
step_image images step = needed (text_field (codes "image") step) >>= known_name images

-- how many steps an image may run
abbrev pub or_million : Option ℕ → Result ℕ ScriptKind
or_million bound = Ok (unwrap_or bound 1000000)

unfoldable pub bound_of : Members → Result ℕ ScriptKind
bound_of step = integer_field (codes "bound") 1 50000000 step >>= or_million

unfoldable pub load_in : List ImageSpec → Members → Result Step ScriptKind
load_in images step = do
  _ ← only_keys (codes "do" ∷ codes "image" ∷ []) step
  image ← step_image images step
  Ok (Load image)

unfoldable pub start_in : List ImageSpec → Members → Result Step ScriptKind
start_in images step = do
  _ ← only_keys (codes "do" ∷ codes "image" ∷ codes "bound" ∷ []) step
  image ← step_image images step
  bound ← bound_of step
  Ok (Start image bound)

unfoldable pub unload_in : List ImageSpec → Members → Result Step ScriptKind
unload_in images step = do
  _ ← only_keys (codes "do" ∷ codes "image" ∷ []) step
  image ← step_image images step
  Ok (Unload image)

unfoldable pub exit_boot_in : List ImageSpec → Members → Result Step ScriptKind
exit_boot_in images step = do
  _ ← only_keys (codes "do" ∷ codes "image" ∷ codes "key" ∷ []) step
  image ← step_image images step
  key ← number_field (codes "key") step
  Ok (ExitBoot image key)

unfoldable pub check_in : List ImageSpec → Members → Result Step ScriptKind
check_in images step = do
  _ ← only_keys (codes "do" ∷ codes "image" ∷ codes "file" ∷ codes "text" ∷ []) step
  image ← step_image images step
  origin ← origin_of step
  Ok (Check image origin)

-- a key that has to be there
unfoldable pub asked : List ℕ → Members → Result (Unit {0}) ScriptKind
asked key step = if has_key key step then Ok tt else Err kinds.Missing

-- the most that a number of a map may be
abbrev pub map_limit : ℕ
map_limit = 4294967295

unfoldable pub map_in : Members → Result Step ScriptKind
map_in step = do
  _ ← only_keys (codes "do" ∷ codes "entries" ∷ codes "size" ∷ codes "version" ∷ []) step
  _ ← asked (codes "entries") step
  entries ← listed entry_of (codes "entries") 1024 step
  size ← integer_or (codes "size") 0 map_limit 40 step
  version ← integer_or (codes "version") 0 map_limit 1 step
  Ok (Map (record { entries = entries; size = size; version = version }))

-- an image and an offset of it, or a service
abbrev pub slot_or_value : Option ℕ → Result Target ScriptKind
slot_or_value None = Err kinds.Value
slot_or_value (Some slot) = Ok (targets.Service slot)

unfoldable pub service_target : Members → Result Target ScriptKind
service_target step = needed (text_field (codes "service") step) >>= λ name. slot_or_value (service_slot name)

unfoldable pub image_target : List ImageSpec → Members → Result Target ScriptKind
image_target images step = do
  image ← step_image images step
  at ← needed (number_field (codes "at") step)
  Ok (targets.Image image at)

unfoldable pub target_of : List ImageSpec → Members → Result Target ScriptKind
target_of images step =
    if not (has_key (codes "service") step) then image_target images step
    else (if has_key (codes "image") step || has_key (codes "at") step then Err kinds.Shape else service_target step)

unfoldable pub only_call_keys : Members → Result (Unit {0}) ScriptKind
only_call_keys step =
    only_keys (codes "do" ∷ codes "image" ∷ codes "at" ∷ codes "service" ∷ codes "args" ∷ codes "buffers" ∷ codes "show" ∷ codes "bound" ∷ []) step

-- the target and the lists, behind which the bound is judged
unfoldable pub with_lists : Members → Target → Result Step ScriptKind
with_lists step target = do
  args ← listed arg_of (codes "args") 8 step
  buffers ← listed buffer_of (codes "buffers") 16 step
  show ← listed shown_of (codes "show") 16 step
  bound ← bound_of step
  Ok (Call (record { target = target; args = args; buffers = buffers; show = show; bound = bound }))

unfoldable pub call_in : List ImageSpec → Members → Result Step ScriptKind
call_in images step = do
  _ ← only_call_keys step
  target ← target_of images step
  with_lists step target

unfoldable pub peek_in : Members → Result Step ScriptKind
peek_in step = do
  _ ← only_keys (codes "do" ∷ codes "at" ∷ codes "len" ∷ []) step
  at ← needed (number_field (codes "at") step)
  len ← needed (integer_field (codes "len") 1 4096 step)
  Ok (Peek at len)

unfoldable pub vars_in : Members → Result Step ScriptKind
vars_in step = do
  _ ← only_keys (codes "do" ∷ []) step
  Ok Vars

unfoldable pub memmap_in : Members → Result Step ScriptKind
memmap_in step = do
  _ ← only_keys (codes "do" ∷ []) step
  Ok MemMap

unfoldable pub later_step : List ℕ → List ImageSpec → Members → Result Step ScriptKind
later_step word images step =
    if bytes_eq word (codes "map") then map_in step
    else (if bytes_eq word (codes "call") then call_in images step
    else (if bytes_eq word (codes "peek") then peek_in step
    else (if bytes_eq word (codes "memmap") then memmap_in step
    else (if bytes_eq word (codes "vars") then vars_in step else Err kinds.Value))))

unfoldable pub step_by : List ℕ → List ImageSpec → Members → Result Step ScriptKind
step_by word images step =
    if bytes_eq word (codes "load") then load_in images step
    else (if bytes_eq word (codes "unload") then unload_in images step
    else (if bytes_eq word (codes "start") then start_in images step
    else (if bytes_eq word (codes "exit_boot") then exit_boot_in images step
    else (if bytes_eq word (codes "check") then check_in images step else later_step word images step))))

unfoldable pub step_in : List ImageSpec → Members → Result Step ScriptKind
step_in images step = needed (text_field (codes "do") step) >>= λ word. step_by word images step

unfoldable pub step_at : List ImageSpec → Data → Result Step ScriptKind
step_at images content = table_of (as_table content) >>= step_in images

-- the steps behind those before, numbered from 1
unfoldable pub steps_of : List ImageSpec → List Step → Items → Result (List Step) Place
steps_of images before no_items = Ok before
steps_of images before (item content items) = placed (length before + 1) (step_at images content) (λ step. steps_of images (before ++ step ∷ []) items)

-- ---- the whole

abbrev pub whole : Top → List ImageSpec → List Step → Plain
whole top images steps = record {
  ram_base = top.ram_base;
  ram_pages = top.ram_pages;
  time = top.settings.time;
  ticks = top.settings.ticks;
  os_virtual = top.settings.os_virtual;
  trace = top.settings.trace;
  store = top.settings.store;
  image = images;
  step = steps;
}

abbrev pub with_steps : Top → List ImageSpec → Result (List Step) Place → Result Plain Place
with_steps top images (Ok steps) = Ok (whole top images steps)
with_steps top images (Err place) = Err place

-- the top table, the images and the steps are step 0, step 0, and each its own
unfoldable pub script_of : Members → Result Plain Place
script_of document = placed 0 (top_of document) (λ top. placed 0 (images_of [] top.images) (λ images. with_steps top images (steps_of images [] top.steps)))

abbrev pub of_document : Option Members → Result Plain Place
of_document None = Err (0, kinds.Text)
of_document (Some document) = script_of document

-- the script that the bytes of a document say
unfoldable pub script_in : List ℕ → Result Plain Place
script_in bytes = if is_utf8 bytes then of_document (parse_document bytes) else Err (0, kinds.Text)
