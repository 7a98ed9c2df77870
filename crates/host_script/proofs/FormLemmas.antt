-- What a script that is read keeps: what each part of the reading asked for.
use Rattle.std.proofs.Common.{◌≡◌, ℕ, ◌+◌, ◌*◌, ◌^◌, ◌≤◌, Bool, true, false, ◌&&◌, ◌||◌, not, nat_lt, nat_le, List, [], ◌∷◌, ◌++◌, length, codes, Option, Some, None, Result, Ok, Err, refl, sym, ap, ◌∙◌, append_assoc, arith, subst}
use Rattle.std.specs.Prelude.{if◌then◌else◌, ◌==◌, unwrap_or, pos, negsuc}
use Rattle.std.specs.Str.{bytes_eq, is_utf8}
use Rattle.std.proofs.lemmas.Bool.Decides.{nat_tests}
use Rattle.std.proofs.lemmas.List.{append-nil}
use Rattle.toml.specs.Data.{Data, integer, Items, no_items, item, Members, get_member, as_str, as_table}
use Rattle.toml.specs.Parse.{parse_document}
use Rattle.uh_base.specs.Names.{is_name}
use Rattle.host_script.specs.Faults.{◌>>=◌, Place, placed}
use Rattle.host_script.specs.Fields.{only_keys, has_key, text_field, number_field, integer_in, integer_field, or_usual, integer_or, tables_field, items_len, counted, needed}
use Rattle.host_script.specs.Script.{has_image, table_of, Top, not_empty, steps_field, is_ram_base, or_4096, ram_pages_of, pages_to_judge, base_or, ram_base_of, only_top_keys, top_of, new_name, text_limit, short_text, one_of, origin_of, image_in, image_at, images_of, known_name, step_image, or_million, bound_of, load_in, start_in, unload_in, exit_boot_in, check_in, asked, map_limit, map_in, slot_or_value, service_target, image_target, target_of, with_lists, only_call_keys, call_in, peek_in, memmap_in, vars_in, later_step, step_by, step_in, step_at, steps_of, whole, with_steps, script_of, of_document, script_in}
use Rattle.host_script.specs.Plain.{Plain}
use Rattle.host_script.specs.Lists.{text_or_shape, or_value, form_at, texts_field, forms_of, few, listed}
use Rattle.host_script.specs.Settings.{Settings, is_time, usual_time, time_or, time_of, rises, rising, ticks_of, trace_of, settings_of}
use Rattle.uh_base.specs.Numbers.{number_of}
use Rattle.time_service.specs.Times.{is_valid}
use Rattle.time_service.specs.Texts.{clock_of, fits_form, time_in}
use Rattle.host_script.specs.Forms.{IsOrigin, AreImages, Each, IsSlot, IsTarget, IsBuffer, IsShown, IsCall, IsMap, IsStep, AreSteps, IsScript, ScriptsKeepForms}
use Rattle.host_script.specs.declared.fault.ScriptKind.{ScriptKind}
use Rattle.host_script.specs.declared.fault.ScriptKind.TheVariants as kinds
use Rattle.host_script.specs.declared.script.Origin.{Origin}
use Rattle.host_script.specs.declared.script.Origin.TheVariants.{File, Text}
use Rattle.host_script.specs.declared.script.ImageSpec.{ImageSpec}
use Rattle.host_script.specs.declared.script.Step.{Step}
use Rattle.host_script.specs.declared.script.Step.TheVariants.{Load, Unload, Start, ExitBoot, Check, Map, Call, Peek, MemMap, Vars}
use Rattle.host_script.specs.declared.script.Arg.{Arg}
use Rattle.host_script.specs.declared.script.Buffer.{Buffer}
use Rattle.host_script.specs.declared.script.MapEntry.{MapEntry}
use Rattle.host_script.specs.declared.script.Shown.{Shown}
use Rattle.host_script.specs.declared.script.Target.{Target}
use Rattle.host_script.specs.declared.script.Target.TheVariants as targets
use Rattle.record_text.specs.HexBytes.{bytes_of}
use Rattle.record_text.specs.Services.{service_slot}
use Rattle.host_script.specs.Steps.{MapPlain, CallPlain}
use Rattle.host_script.specs.Words.{◌>>=?◌, cut, small_number, entry_of, arg_of, is_buffer, buffer_of, is_shown, shown_of}

-- ---- a chain that ends well has no fault on its way

pub record Went {A B : Type 0} (r : Result A ScriptKind) (f : A → Result B ScriptKind) (y : B) : Type 0 where
  x : A
  first : r ≡ Ok x
  then_ : f x ≡ Ok y

went : {A B : Type 0} (r : Result A ScriptKind) (f : A → Result B ScriptKind) (y : B) → (r >>= f) ≡ Ok y → Went r f y
went (Ok x) f y h = record { x = x; first = refl; then_ = h }
went (Err e) f y h = cc

pub record WentOn {A B : Type 0} (n : ℕ) (r : Result A ScriptKind) (f : A → Result B Place) (y : B) : Type 0 where
  x : A
  first : r ≡ Ok x
  then_ : f x ≡ Ok y

went_on : {A B : Type 0} (n : ℕ) (r : Result A ScriptKind) (f : A → Result B Place) (y : B) → placed n r f ≡ Ok y → WentOn n r f y
went_on n (Ok x) f y h = record { x = x; first = refl; then_ = h }
went_on n (Err e) f y h = cc

-- ---- tests

checked : {A : Type 0} (b : Bool) (x y : A) (e : ScriptKind) → (if b then Ok x else Err e) ≡ Ok y → (b ≡ true) × (x ≡ y)
checked true x y e h = (refl, cc)
checked false x y e h = cc

refused : {A : Type 0} (b : Bool) (x y : A) (e : ScriptKind) → (if b then Err e else Ok x) ≡ Ok y → (b ≡ false) × (x ≡ y)
refused true x y e h = cc
refused false x y e h = (refl, cc)

new_names : (before : List ImageSpec) (name kept : List ℕ) → new_name before name ≡ Ok kept → (is_name kept ≡ true) × (has_image before kept ≡ false)
new_names before name kept h = by (is_name name) refl (has_image before name) refl h
  where
    by : (b : Bool) → is_name name ≡ b → (c : Bool) → has_image before name ≡ c → (if b then (if c then Err kinds.Name else Ok name) else Err kinds.Value) ≡ Ok kept → (is_name kept ≡ true) × (has_image before kept ≡ false)
    by true p true q h = cc
    by true p false q h = let e : name ≡ kept = cc in (sym (ap is_name e) ∙ p, sym (ap (has_image before) e) ∙ q)
    by false p c q h = cc

known_names : (images : List ImageSpec) (name kept : List ℕ) → known_name images name ≡ Ok kept → has_image images kept ≡ true
known_names images name kept h = by (is_name name) refl (has_image images name) refl h
  where
    by : (b : Bool) → is_name name ≡ b → (c : Bool) → has_image images name ≡ c → (if b then (if c then Ok name else Err kinds.Name) else Err kinds.Value) ≡ Ok kept → has_image images kept ≡ true
    by true p true q h = let e : name ≡ kept = cc in sym (ap (has_image images) e) ∙ q
    by true p false q h = cc
    by false p c q h = cc

-- ---- lists with a count

few_kept : (most : ℕ) (items kept : Items) → counted most items ≡ Ok kept → (items ≡ kept) × (items_len kept ≤ most)
unfolding counted
few_kept most items kept h =
    let p = refused (nat_lt most (items_len items)) items kept kinds.Count h in
    let test : nat_lt most (items_len items) ≡ false = p.0 in
    let few : items_len items ≤ most = grind (arith, nat_tests, test) in
    let same : items ≡ kept = p.1 in
    (same, rw (← same) few)

some_kept : (items kept : Items) → not_empty items ≡ Ok kept → (items ≡ kept) × (1 ≤ items_len kept)
some_kept items kept h =
    let p = refused (items_len items == 0) items kept kinds.Missing h in
    let test : (items_len items == 0) ≡ false = p.0 in
    let some : 1 ≤ items_len items = grind (arith, nat_tests, test) in
    let same : items ≡ kept = p.1 in
    (same, rw (← same) some)

-- ---- images

record ReadsImage (before : List ImageSpec) (image : ImageSpec) : Type 0 where
  named : is_name image.name ≡ true
  new : has_image before image.name ≡ false
  short : IsOrigin image.origin

text_kept : (text : List ℕ) (origin : Origin) → short_text text ≡ Ok origin → IsOrigin origin
text_kept text origin h =
    let p = checked (nat_le (length text) text_limit) (Text text) origin kinds.Value h in
    let test : nat_le (length text) text_limit ≡ true = p.0 in
    let short : length text ≤ text_limit = grind (arith, nat_tests, test) in
    let same : Text text ≡ origin = p.1 in
    subst IsOrigin same short

one_kept : (file text : Option (List ℕ)) (origin : Origin) → one_of file text ≡ Ok origin → IsOrigin origin
one_kept (Some file) None origin h = let same : File file ≡ origin = cc in subst IsOrigin same tt
one_kept None (Some text) origin h = text_kept text origin h
one_kept None None origin h = cc
one_kept (Some file) (Some text) origin h = cc

origin_kept : (table : Members) (origin : Origin) → origin_of table ≡ Ok origin → IsOrigin origin
unfolding origin_of
origin_kept table origin h =
    let file = went (text_field (codes "file") table) (λ file. text_field (codes "text") table >>= one_of file) origin h in
    let text = went (text_field (codes "text") table) (one_of file.x) origin file.then_ in
    one_kept file.x text.x origin text.then_

abbrev with_origin : List ℕ → Members → Origin → Result ImageSpec ScriptKind
with_origin name table origin = Ok (record { name = name; origin = origin })

abbrev with_name : Members → List ℕ → Result ImageSpec ScriptKind
with_name table name = origin_of table >>= with_origin name table

made_kept : (table : Members) (name : List ℕ) (origin : Origin) (image : ImageSpec) → with_origin name table origin ≡ Ok image → (name ≡ image.name) × (origin ≡ image.origin)
made_kept table name origin image h = let made : ImageSpec = record { name = name; origin = origin } in let e : made ≡ image = cc in (ap (λ (i : ImageSpec). i.name) e, ap (λ (i : ImageSpec). i.origin) e)

image_read : (before : List ImageSpec) (table : Members) (image : ImageSpec) → image_in before table ≡ Ok image → ReadsImage before image
unfolding image_in
image_read before table image h =
    let named : Result (List ℕ) ScriptKind = needed (text_field (codes "name") table) >>= new_name before in
    let keys = went (only_keys (codes "name" ∷ codes "file" ∷ codes "text" ∷ []) table) (λ _. named >>= with_name table) image h in
    let name = went named (with_name table) image keys.then_ in
    let origin = went (origin_of table) (with_origin name.x table) image name.then_ in
    let text = went (needed (text_field (codes "name") table)) (new_name before) name.x name.first in
    let forms = new_names before text.x name.x text.then_ in
    let kept = made_kept table name.x origin.x image origin.then_ in
    let same : name.x ≡ image.name = kept.0 in
    record { named = rw (← same) forms.0; new = rw (← same) forms.1; short = subst IsOrigin kept.1 (origin_kept table origin.x origin.first) }

image_read_at : (before : List ImageSpec) (content : Data) (image : ImageSpec) → image_at before content ≡ Ok image → ReadsImage before image
unfolding image_at
image_read_at before content image h = let p = went (table_of (as_table content)) (image_in before) image h in image_read before p.x image p.then_

-- the images that were read, behind those before them
record ReadImages (before images : List ImageSpec) (count : ℕ) : Type 0 where
  added : List ImageSpec
  same : images ≡ before ++ added
  keep : AreImages before added
  long : length added ≡ count

images_read : (before : List ImageSpec) (items : Items) (images : List ImageSpec) → images_of before items ≡ Ok images → ReadImages before images (items_len items)
unfolding images_of
images_read before no_items images h = let e : before ≡ images = cc in record { added = []; same = sym e ∙ sym (append-nil before); keep = tt; long = refl }
images_read before (item content items) images h =
    let p = went (image_at before content) (λ image. images_of (before ++ image ∷ []) items) images h in
    let first = image_read_at before content p.x p.first in
    let rest = images_read (before ++ p.x ∷ []) items images p.then_ in
    record {
      added = p.x ∷ rest.added;
      same = rest.same ∙ append_assoc before (p.x ∷ []) rest.added;
      keep = (first.named, first.new, first.short, rest.keep);
      long = omega (arith, rest.long);
    }

-- ---- steps

image_known : (images : List ImageSpec) (table : Members) (name : List ℕ) → step_image images table ≡ Ok name → has_image images name ≡ true
unfolding step_image
image_known images table name h =
    let p = went (needed (text_field (codes "image") table)) (known_name images) name h in known_names images p.x name p.then_

-- a number that is given lies between two
abbrev InRange : ℕ → ℕ → Option ℕ → Type 0
InRange low high None = Unit {0}
InRange low high (Some n) = (low ≤ n) × (n ≤ high)

in_range : (low high n : ℕ) (given : Option ℕ) → (if nat_le low n && nat_le n high then Ok (Some n) else Err kinds.Value) ≡ Ok given → InRange low high given
in_range low high n given h =
    let p = checked (nat_le low n && nat_le n high) (Some n) given kinds.Value h in
    let same : Some n ≡ given = p.1 in
    let test : (nat_le low n && nat_le n high) ≡ true = p.0 in
    let above : low ≤ n = grind (arith, nat_tests, test) in
    let below : n ≤ high = grind (arith, nat_tests, test) in
    subst (InRange low high) same (above, below)

integer_range : (low high : ℕ) (content : Option Data) (given : Option ℕ) → integer_in low high content ≡ Ok given → InRange low high given
integer_range low high None given h = let same : None ≡ given = cc in subst (InRange low high) same tt
integer_range low high (Some (integer (pos n))) given h = in_range low high n given h
integer_range low high (Some (integer (negsuc n))) given h = cc
integer_range low high (Some other) given h = cc

given_or : (low high other : ℕ) (given : Option ℕ) → InRange low high given → low ≤ other → other ≤ high → (low ≤ unwrap_or given other) × (unwrap_or given other ≤ high)
given_or low high other None h above below = (above, below)
given_or low high other (Some n) h above below = h

bound_read : (table : Members) (bound : ℕ) → bound_of table ≡ Ok bound → (1 ≤ bound) × (bound ≤ 50000000)
unfolding bound_of integer_field
bound_read table bound h =
    let p = went (integer_in 1 50000000 (get_member (codes "bound") table)) or_million bound h in
    let same : unwrap_or p.x 1000000 ≡ bound = cc in
    let range = integer_range 1 50000000 (get_member (codes "bound") table) p.x p.first in
    rw (← same) (given_or 1 50000000 1000000 p.x range (omega arith) (omega arith))

abbrev with_image : List ℕ → Result Step ScriptKind
with_image image = Ok (Load image)

load_read : (images : List ImageSpec) (table : Members) (step : Step) → load_in images table ≡ Ok step → IsStep images step
unfolding load_in
load_read images table step h =
    let keys = went (only_keys (codes "do" ∷ codes "image" ∷ []) table) (λ _. step_image images table >>= with_image) step h in
    let image = went (step_image images table) with_image step keys.then_ in
    let same : Load image.x ≡ step = cc in
    subst (IsStep images) same (image_known images table image.x image.first)

abbrev with_bound : List ℕ → ℕ → Result Step ScriptKind
with_bound image bound = Ok (Start image bound)

start_read : (images : List ImageSpec) (table : Members) (step : Step) → start_in images table ≡ Ok step → IsStep images step
unfolding start_in
start_read images table step h =
    let keys = went (only_keys (codes "do" ∷ codes "image" ∷ codes "bound" ∷ []) table) (λ _. step_image images table >>= λ image. bound_of table >>= with_bound image) step h in
    let image = went (step_image images table) (λ image. bound_of table >>= with_bound image) step keys.then_ in
    let bound = went (bound_of table) (with_bound image.x) step image.then_ in
    let same : Start image.x bound.x ≡ step = cc in
    let range = bound_read table bound.x bound.first in
    subst (IsStep images) same (image_known images table image.x image.first, range.0, range.1)

memmap_read : (images : List ImageSpec) (table : Members) (step : Step) → memmap_in table ≡ Ok step → IsStep images step
unfolding memmap_in
memmap_read images table step h =
    let keys = went (only_keys (codes "do" ∷ []) table) (λ _. Ok MemMap) step h in
    let same : MemMap ≡ step = cc in
    subst (IsStep images) same tt

few_are : {A : Type 0} (most : ℕ) (items kept : List A) → few most items ≡ Ok kept → (items ≡ kept) × (length kept ≤ most)
few_are most items kept h =
    let p = refused (nat_lt most (length items)) items kept kinds.Count h in
    let test : nat_lt most (length items) ≡ false = p.0 in
    let few : length items ≤ most = grind (arith, nat_tests, test) in
    let same : items ≡ kept = p.1 in
    (same, rw (← same) few)

-- ---- lists of texts, each read by a form

pub record Met {A B : Type 0} (o : Option A) (f : A → Option B) (y : B) : Type 0 where
  x : A
  first : o ≡ Some x
  then_ : f x ≡ Some y

met : {A B : Type 0} (o : Option A) (f : A → Option B) (y : B) → (o >>=? f) ≡ Some y → Met o f y
met (Some x) f y h = record { x = x; first = refl; then_ = h }
met None f y h = cc

tested : {A : Type 0} (b : Bool) (x y : A) → (if b then Some x else None) ≡ Some y → (b ≡ true) × (x ≡ y)
tested true x y h = (refl, cc)
tested false x y h = cc

Each-snoc : {A : Type 0} (P : A → Type 0) (before : List A) (x : A) → Each P before → P x → Each P (before ++ x ∷ [])
Each-snoc P [] x h p = (p, tt)
Each-snoc P (y ∷ ys) x h p = (h.0, Each-snoc P ys x h.1 p)

formed : {A : Type 0} (P : A → Type 0) (read : Option A) (x : A) → ((y : A) → read ≡ Some y → P y) → or_value read ≡ Ok x → P x
formed P None x each h = cc
formed P (Some y) x each h = let same : y ≡ x = cc in subst P same (each y refl)

module _ {A : Type 0} (form : List ℕ → Option A) (P : A → Type 0) (each : (text : List ℕ) (x : A) → form text ≡ Some x → P x) where
  form_kept : (content : Data) (x : A) → form_at form content ≡ Ok x → P x
  unfolding form_at
  form_kept content x h =
      let text = went (text_or_shape (as_str content)) (λ text. or_value (form text)) x h in
      formed P (form text.x) x (each text.x) text.then_

  forms_kept : (before : List A) (items : Items) (xs : List A) → forms_of form before items ≡ Ok xs → Each P before → Each P xs
  unfolding forms_of
  forms_kept before no_items xs h all = let same : before ≡ xs = cc in subst (Each P) same all
  forms_kept before (item content items) xs h all =
      let x = went (form_at form content) (λ x. forms_of form (before ++ x ∷ []) items) xs h in
      forms_kept (before ++ x.x ∷ []) items xs x.then_ (Each-snoc P before x.x all (form_kept content x.x x.first))

  listed_kept : (key : List ℕ) (most : ℕ) (table : Members) (xs : List A) → listed form key most table ≡ Ok xs → Each P xs × (length xs ≤ most)
  unfolding listed
  listed_kept key most table xs h =
      let all = went (texts_field key table >>= forms_of form []) (few most) xs h in
      let items = went (texts_field key table) (forms_of form []) all.x all.first in
      let count = few_are most all.x xs all.then_ in
      (subst (Each P) count.0 (forms_kept [] items.x all.x items.then_ tt), count.1)

listed_few : {A : Type 0} (form : List ℕ → Option A) (key : List ℕ) (most : ℕ) (table : Members) (xs : List A) → listed form key most table ≡ Ok xs → length xs ≤ most
listed_few form key most table xs h = (listed_kept form (λ _. Unit {0}) (λ _ _ _. tt) key most table xs h).1

buffer_is : (offset : ℕ) (hex : List ℕ) (buffer : Buffer) → (if is_buffer offset hex then Some (record { offset = offset; hex = hex }) else None) ≡ Some buffer → IsBuffer buffer
buffer_is offset hex buffer h =
    let made : Buffer = record { offset = offset; hex = hex } in
    let p = tested (is_buffer offset hex) made buffer h in
    subst IsBuffer p.1 p.0

buffer_kept : (text : List ℕ) (buffer : Buffer) → buffer_of text ≡ Some buffer → IsBuffer buffer
unfolding buffer_of
buffer_kept text buffer h =
    let parts = met (cut text) _ buffer h in
    let offset = met (small_number parts.x.0) _ buffer parts.then_ in
    let hex = met (bytes_of parts.x.1) _ buffer offset.then_ in
    buffer_is offset.x hex.x buffer hex.then_

shown_is : (offset len : ℕ) (shown : Shown) → (if is_shown offset len then Some (record { offset = offset; len = len }) else None) ≡ Some shown → IsShown shown
shown_is offset len shown h =
    let made : Shown = record { offset = offset; len = len } in
    let p = tested (is_shown offset len) made shown h in
    subst IsShown p.1 p.0

shown_kept : (text : List ℕ) (shown : Shown) → shown_of text ≡ Some shown → IsShown shown
unfolding shown_of
shown_kept text shown h =
    let parts = met (cut text) _ shown h in
    let offset = met (small_number parts.x.0) _ shown parts.then_ in
    let len = met (small_number parts.x.1) _ shown offset.then_ in
    shown_is offset.x len.x shown len.then_

-- ---- further steps

unload_read : (images : List ImageSpec) (table : Members) (step : Step) → unload_in images table ≡ Ok step → IsStep images step
unfolding unload_in
unload_read images table step h =
    let keys = went (only_keys (codes "do" ∷ codes "image" ∷ []) table) _ step h in
    let image = went (step_image images table) (λ image. Ok (Unload image)) step keys.then_ in
    let same : Unload image.x ≡ step = cc in
    subst (IsStep images) same (image_known images table image.x image.first)

exit_boot_read : (images : List ImageSpec) (table : Members) (step : Step) → exit_boot_in images table ≡ Ok step → IsStep images step
unfolding exit_boot_in
exit_boot_read images table step h =
    let keys = went (only_keys (codes "do" ∷ codes "image" ∷ codes "key" ∷ []) table) _ step h in
    let image = went (step_image images table) _ step keys.then_ in
    let key = went (number_field (codes "key") table) (λ key. Ok (ExitBoot image.x key)) step image.then_ in
    let same : ExitBoot image.x key.x ≡ step = cc in
    subst (IsStep images) same (image_known images table image.x image.first)

check_read : (images : List ImageSpec) (table : Members) (step : Step) → check_in images table ≡ Ok step → IsStep images step
unfolding check_in
check_read images table step h =
    let keys = went (only_keys (codes "do" ∷ codes "image" ∷ codes "file" ∷ codes "text" ∷ []) table) _ step h in
    let image = went (step_image images table) _ step keys.then_ in
    let origin = went (origin_of table) (λ origin. Ok (Check image.x origin)) step image.then_ in
    let same : Check image.x origin.x ≡ step = cc in
    subst (IsStep images) same (image_known images table image.x image.first, origin_kept table origin.x origin.first)

usual_range : (key : List ℕ) (usual n : ℕ) (table : Members) → usual ≤ map_limit → integer_or key 0 map_limit usual table ≡ Ok n → n ≤ map_limit
unfolding integer_or integer_field
usual_range key usual n table small h =
    let p = went (integer_in 0 map_limit (get_member key table)) (or_usual usual) n h in
    let same : unwrap_or p.x usual ≡ n = cc in
    let range = integer_range 0 map_limit (get_member key table) p.x p.first in
    rw (← same) (given_or 0 map_limit usual p.x range (omega arith) small).1

map_read : (images : List ImageSpec) (table : Members) (step : Step) → map_in table ≡ Ok step → IsStep images step
unfolding map_in
map_read images table step h =
    let keys = went (only_keys (codes "do" ∷ codes "entries" ∷ codes "size" ∷ codes "version" ∷ []) table) _ step h in
    let asks = went (asked (codes "entries") table) _ step keys.then_ in
    let entries = went (listed entry_of (codes "entries") 1024 table) _ step asks.then_ in
    let size = went (integer_or (codes "size") 0 map_limit 40 table) _ step entries.then_ in
    let version = went (integer_or (codes "version") 0 map_limit 1 table) (λ version. Ok (Map (record { entries = entries.x; size = size.x; version = version }))) step size.then_ in
    let made : MapPlain = record { entries = entries.x; size = size.x; version = version.x } in
    let same : Map made ≡ step = cc in
    subst (IsStep images) same (record {
      few_entries = listed_few entry_of (codes "entries") 1024 table entries.x entries.first;
      size = usual_range (codes "size") 40 size.x table (omega arith) size.first;
      version = usual_range (codes "version") 1 version.x table (omega arith) version.first;
    })

slot_kept : (images : List ImageSpec) (name : List ℕ) (slot : Option ℕ) (target : Target) → service_slot name ≡ slot → slot_or_value slot ≡ Ok target → IsTarget images target
slot_kept images name None target is h = cc
slot_kept images name (Some slot) target is h =
    let same : targets.Service slot ≡ target = cc in
    subst (IsTarget images) same (record { name = name; is = is })

service_kept : (images : List ImageSpec) (table : Members) (target : Target) → service_target table ≡ Ok target → IsTarget images target
unfolding service_target
service_kept images table target h =
    let name = went (needed (text_field (codes "service") table)) (λ name. slot_or_value (service_slot name)) target h in
    slot_kept images name.x (service_slot name.x) target refl name.then_

image_at_kept : (images : List ImageSpec) (table : Members) (target : Target) → image_target images table ≡ Ok target → IsTarget images target
unfolding image_target
image_at_kept images table target h =
    let image = went (step_image images table) _ target h in
    let at = went (needed (number_field (codes "at") table)) (λ at. Ok (targets.Image image.x at)) target image.then_ in
    let same : targets.Image image.x at.x ≡ target = cc in
    subst (IsTarget images) same (image_known images table image.x image.first)

target_kept : (images : List ImageSpec) (table : Members) (target : Target) → target_of images table ≡ Ok target → IsTarget images target
unfolding target_of
target_kept images table target h = by (not (has_key (codes "service") table)) (has_key (codes "image") table || has_key (codes "at") table) h
  where
    by : (of_image both : Bool) → (if of_image then image_target images table else (if both then Err kinds.Shape else service_target table)) ≡ Ok target → IsTarget images target
    by true both h = image_at_kept images table target h
    by false true h = cc
    by false false h = service_kept images table target h

lists_read : (images : List ImageSpec) (table : Members) (target : Target) (step : Step) → IsTarget images target → with_lists table target ≡ Ok step → IsStep images step
unfolding with_lists
lists_read images table target step there h =
    let args = went (listed arg_of (codes "args") 8 table) _ step h in
    let buffers = went (listed buffer_of (codes "buffers") 16 table) _ step args.then_ in
    let show = went (listed shown_of (codes "show") 16 table) _ step buffers.then_ in
    let bound = went (bound_of table) (λ bound. Ok (Call (record { target = target; args = args.x; buffers = buffers.x; show = show.x; bound = bound }))) step show.then_ in
    let made : CallPlain = record { target = target; args = args.x; buffers = buffers.x; show = show.x; bound = bound.x } in
    let same : Call made ≡ step = cc in
    let are_buffers = listed_kept buffer_of IsBuffer buffer_kept (codes "buffers") 16 table buffers.x buffers.first in
    let are_shown = listed_kept shown_of IsShown shown_kept (codes "show") 16 table show.x show.first in
    let range = bound_read table bound.x bound.first in
    subst (IsStep images) same (record {
      target = there;
      few_args = listed_few arg_of (codes "args") 8 table args.x args.first;
      few_buffers = are_buffers.1;
      buffers = are_buffers.0;
      few_shown = are_shown.1;
      shown = are_shown.0;
      some_steps = range.0;
      few_steps = range.1;
    })

call_read : (images : List ImageSpec) (table : Members) (step : Step) → call_in images table ≡ Ok step → IsStep images step
unfolding call_in
call_read images table step h =
    let keys = went (only_call_keys table) (λ _. target_of images table >>= with_lists table) step h in
    let target = went (target_of images table) (with_lists table) step keys.then_ in
    lists_read images table target.x step (target_kept images table target.x target.first) target.then_

needed_some : {A : Type 0} (r : Result (Option A) ScriptKind) (x : A) → needed r ≡ Ok x → r ≡ Ok (Some x)
needed_some (Ok (Some y)) x h = let same : y ≡ x = cc in rw same refl
needed_some (Ok None) x h = cc
needed_some (Err e) x h = cc

len_read : (table : Members) (len : ℕ) → integer_field (codes "len") 1 4096 table ≡ Ok (Some len) → (1 ≤ len) × (len ≤ 4096)
unfolding integer_field
len_read table len h = integer_range 1 4096 (get_member (codes "len") table) (Some len) h

peek_read : (images : List ImageSpec) (table : Members) (step : Step) → peek_in table ≡ Ok step → IsStep images step
unfolding peek_in
peek_read images table step h =
    let keys = went (only_keys (codes "do" ∷ codes "at" ∷ codes "len" ∷ []) table) _ step h in
    let at = went (needed (number_field (codes "at") table)) _ step keys.then_ in
    let len = went (needed (integer_field (codes "len") 1 4096 table)) (λ len. Ok (Peek at.x len)) step at.then_ in
    let same : Peek at.x len.x ≡ step = cc in
    subst (IsStep images) same (len_read table len.x (needed_some (integer_field (codes "len") 1 4096 table) len.x len.first))

vars_read : (images : List ImageSpec) (table : Members) (step : Step) → vars_in table ≡ Ok step → IsStep images step
unfolding vars_in
vars_read images table step h =
    let keys = went (only_keys (codes "do" ∷ []) table) (λ _. Ok Vars) step h in
    let same : Vars ≡ step = cc in
    subst (IsStep images) same tt

later_read : (word : List ℕ) (images : List ImageSpec) (table : Members) (step : Step) → later_step word images table ≡ Ok step → IsStep images step
unfolding later_step
later_read word images table step h =
    by (bytes_eq word (codes "map")) (bytes_eq word (codes "call")) (bytes_eq word (codes "peek")) (bytes_eq word (codes "memmap")) (bytes_eq word (codes "vars")) h
  where
    by : (maps calls peeks lists vars : Bool)
        → (if maps then map_in table else (if calls then call_in images table else (if peeks then peek_in table else (if lists then memmap_in table else (if vars then vars_in table else Err kinds.Value))))) ≡ Ok step
        → IsStep images step
    by true calls peeks lists vars h = map_read images table step h
    by false true peeks lists vars h = call_read images table step h
    by false false true lists vars h = peek_read images table step h
    by false false false true vars h = memmap_read images table step h
    by false false false false true h = vars_read images table step h
    by false false false false false h = cc

by_read : (word : List ℕ) (images : List ImageSpec) (table : Members) (step : Step) → step_by word images table ≡ Ok step → IsStep images step
unfolding step_by
by_read word images table step h =
    by (bytes_eq word (codes "load")) (bytes_eq word (codes "unload")) (bytes_eq word (codes "start")) (bytes_eq word (codes "exit_boot")) (bytes_eq word (codes "check")) h
  where
    by : (loads unloads starts exits checks : Bool)
        → (if loads then load_in images table else (if unloads then unload_in images table else (if starts then start_in images table else (if exits then exit_boot_in images table else (if checks then check_in images table else later_step word images table))))) ≡ Ok step
        → IsStep images step
    by true unloads starts exits checks h = load_read images table step h
    by false true starts exits checks h = unload_read images table step h
    by false false true exits checks h = start_read images table step h
    by false false false true checks h = exit_boot_read images table step h
    by false false false false true h = check_read images table step h
    by false false false false false h = later_read word images table step h

step_read_at : (images : List ImageSpec) (content : Data) (step : Step) → step_at images content ≡ Ok step → IsStep images step
unfolding step_at step_in
step_read_at images content step h =
    let table = went (table_of (as_table content)) (step_in images) step h in
    let word = went (needed (text_field (codes "do") table.x)) (λ word. step_by word images table.x) step table.then_ in
    by_read word.x images table.x step word.then_

record ReadSteps (images : List ImageSpec) (before steps : List Step) (count : ℕ) : Type 0 where
  added : List Step
  same : steps ≡ before ++ added
  keep : AreSteps images added
  long : length added ≡ count

steps_read : (images : List ImageSpec) (before : List Step) (items : Items) (steps : List Step) → steps_of images before items ≡ Ok steps → ReadSteps images before steps (items_len items)
unfolding steps_of
steps_read images before no_items steps h = let e : before ≡ steps = cc in record { added = []; same = sym e ∙ sym (append-nil before); keep = tt; long = refl }
steps_read images before (item content items) steps h =
    let p = went_on (length before + 1) (step_at images content) (λ step. steps_of images (before ++ step ∷ []) items) steps h in
    let first = step_read_at images content p.x p.first in
    let rest = steps_read images (before ++ p.x ∷ []) items steps p.then_ in
    record {
      added = p.x ∷ rest.added;
      same = rest.same ∙ append_assoc before (p.x ∷ []) rest.added;
      keep = (first, rest.keep);
      long = omega (arith, rest.long);
    }

-- ---- the whole

steps_counted : (table : Members) (steps : Items) → steps_field table ≡ Ok steps → (1 ≤ items_len steps) × (items_len steps ≤ 4096)
unfolding steps_field
steps_counted table steps h =
    let all = went (tables_field (codes "step") table >>= not_empty) (counted 4096) steps h in
    let some = went (tables_field (codes "step") table) not_empty all.x all.first in
    let few = few_kept 4096 all.x steps all.then_ in
    let one = some_kept some.x all.x some.then_ in
    let same : all.x ≡ steps = few.0 in
    (rw (← same) one.1, few.1)

ram_pages_read : (table : Members) (pages : ℕ) → ram_pages_of table ≡ Ok pages → (256 ≤ pages) × (pages ≤ 4096)
unfolding ram_pages_of integer_field
ram_pages_read table pages h =
    let p = went (integer_in 256 4096 (get_member (codes "ram_pages") table)) or_4096 pages h in
    let same : unwrap_or p.x 4096 ≡ pages = cc in
    let range = integer_range 256 4096 (get_member (codes "ram_pages") table) p.x p.first in
    rw (← same) (given_or 256 4096 4096 p.x range (omega arith) (omega arith))

-- RAM of at most 4,096 pages may begin where it begins if no address is given.
usual_base : (pages : ℕ) → pages ≤ 4096 → is_ram_base pages 0x40000000 ≡ true
usual_base pages few = let fits : 0x40000000 + 4096 * pages ≤ 2 ^ 46 = omega (arith, few) in grind (arith, nat_tests, fits)

base_read : (pages : ℕ) (given : Option ℕ) (base : ℕ) → pages ≤ 4096 → base_or pages given ≡ Ok base → is_ram_base pages base ≡ true
base_read pages None base few h = let same : 0x40000000 ≡ base = cc in subst (λ b. is_ram_base pages b ≡ true) same (usual_base pages few)
base_read pages (Some given) base few h = by (is_ram_base pages given) refl h
  where
    by : (fits : Bool) → is_ram_base pages given ≡ fits → (if fits then Ok given else Err kinds.Value) ≡ Ok base → is_ram_base pages base ≡ true
    by true fits h = let same : given ≡ base = cc in subst (λ b. is_ram_base pages b ≡ true) same fits
    by false fits h = cc

ram_base_read : (table : Members) (pages base : ℕ) → ram_pages_of table ≡ Ok pages → pages ≤ 4096 → ram_base_of table ≡ Ok base → is_ram_base pages base ≡ true
unfolding ram_base_of
ram_base_read table pages base same few h =
    let p = went (number_field (codes "ram_base") table) (base_or (pages_to_judge (ram_pages_of table))) base h in
    let judged : pages_to_judge (ram_pages_of table) ≡ pages = rw same refl in
    base_read pages p.x base few (subst (λ n. base_or n p.x ≡ Ok base) judged p.then_)

-- ---- the settings

record ReadsSettings (settings : Settings) : Type 0 where
  time : is_time settings.time ≡ true
  rise : rises 0 settings.ticks ≡ true
  few_ticks : length settings.ticks ≤ 1024

usual_is_time : is_time usual_time ≡ true
unfolding is_time clock_of fits_form is_valid time_in
usual_is_time = refl

time_kept : (given : Option (List ℕ)) (time : List ℕ) → time_or given ≡ Ok time → is_time time ≡ true
time_kept None time h = let same : usual_time ≡ time = cc in subst (λ text. is_time text ≡ true) same usual_is_time
time_kept (Some text) time h =
    let p = checked (is_time text) text time kinds.Value h in
    let same : text ≡ time = p.1 in
    subst (λ text. is_time text ≡ true) same p.0

time_read : (table : Members) (time : List ℕ) → time_of table ≡ Ok time → is_time time ≡ true
unfolding time_of
time_read table time h = let p = went (text_field (codes "time") table) time_or time h in time_kept p.x time p.then_

ticks_read : (table : Members) (ticks : List ℕ) → ticks_of table ≡ Ok ticks → (rises 0 ticks ≡ true) × (length ticks ≤ 1024)
unfolding ticks_of
ticks_read table ticks h =
    let all = went ((texts_field (codes "ticks") table >>= forms_of number_of []) >>= rising) (few 1024) ticks h in
    let rise = went (texts_field (codes "ticks") table >>= forms_of number_of []) rising all.x all.first in
    let is = checked (rises 0 rise.x) rise.x all.x kinds.Value rise.then_ in
    let count = few_are 1024 all.x ticks all.then_ in
    let same : rise.x ≡ all.x = is.1 in
    let kept : all.x ≡ ticks = count.0 in
    (subst (λ ns. rises 0 ns ≡ true) (same ∙ kept) is.0, count.1)

abbrev with_store : List ℕ → List ℕ → Option ℕ → Bool → Option (List ℕ) → Result Settings ScriptKind
with_store time ticks os_virtual trace store = Ok (record { time = time; ticks = ticks; os_virtual = os_virtual; trace = trace; store = store })

settings_read : (table : Members) (settings : Settings) → settings_of table ≡ Ok settings → ReadsSettings settings
unfolding settings_of
settings_read table settings h =
    let time = went (time_of table) _ settings h in
    let ticks = went (ticks_of table) _ settings time.then_ in
    let os = went (number_field (codes "os_virtual") table) _ settings ticks.then_ in
    let trace = went (trace_of table) _ settings os.then_ in
    let store = went (text_field (codes "store") table) (with_store time.x ticks.x os.x trace.x) settings trace.then_ in
    let made : Settings = record { time = time.x; ticks = ticks.x; os_virtual = os.x; trace = trace.x; store = store.x } in
    let same : made ≡ settings = cc in
    let read = ticks_read table ticks.x ticks.first in
    subst ReadsSettings same (record { time = time_read table time.x time.first; rise = read.0; few_ticks = read.1 })

record ReadsTop (top : Top) : Type 0 where
  ram_base : is_ram_base top.ram_pages top.ram_base ≡ true
  some_ram : 256 ≤ top.ram_pages
  few_ram : top.ram_pages ≤ 4096
  settings : ReadsSettings top.settings
  few_images : items_len top.images ≤ 16
  some_steps : 1 ≤ items_len top.steps
  few_steps : items_len top.steps ≤ 4096

abbrev with_tables : ℕ → ℕ → Settings → Items → Items → Result Top ScriptKind
with_tables ram_base ram_pages settings images steps = Ok (record { ram_base = ram_base; ram_pages = ram_pages; settings = settings; images = images; steps = steps })

top_read : (table : Members) (top : Top) → top_of table ≡ Ok top → ReadsTop top
unfolding top_of
top_read table top h =
    let listed : Result Items ScriptKind = tables_field (codes "image") table >>= counted 16 in
    let keys = went (only_top_keys table) _ top h in
    let base = went (ram_base_of table) _ top keys.then_ in
    let pages = went (ram_pages_of table) _ top base.then_ in
    let settings = went (settings_of table) _ top pages.then_ in
    let images = went listed _ top settings.then_ in
    let steps = went (steps_field table) (with_tables base.x pages.x settings.x images.x) top images.then_ in
    let all = went (tables_field (codes "image") table) (counted 16) images.x images.first in
    let few = few_kept 16 all.x images.x all.then_ in
    let count = steps_counted table steps.x steps.first in
    let ram = ram_pages_read table pages.x pages.first in
    let made : Top = record { ram_base = base.x; ram_pages = pages.x; settings = settings.x; images = images.x; steps = steps.x } in
    let same : made ≡ top = cc in
    subst ReadsTop same (record {
      ram_base = ram_base_read table pages.x base.x pages.first ram.1 base.first;
      some_ram = ram.0;
      few_ram = ram.1;
      settings = settings_read table settings.x settings.first;
      few_images = few.1;
      some_steps = count.0;
      few_steps = count.1;
    })

record WithSteps (top : Top) (images : List ImageSpec) (r : Result (List Step) Place) (script : Plain) : Type 0 where
  steps : List Step
  first : r ≡ Ok steps
  same : whole top images steps ≡ script

with_all : (top : Top) (images : List ImageSpec) (r : Result (List Step) Place) (script : Plain) → with_steps top images r ≡ Ok script → WithSteps top images r script
with_all top images (Ok steps) script h = record { steps = steps; first = refl; same = cc }
with_all top images (Err e) script h = cc

document_read : (table : Members) (script : Plain) → script_of table ≡ Ok script → IsScript script
unfolding script_of
document_read table script h =
    let rest : Top → Result Plain Place = λ top. placed 0 (images_of [] top.images) (λ images. with_steps top images (steps_of images [] top.steps)) in
    let top = went_on 0 (top_of table) rest script h in
    let images = went_on 0 (images_of [] top.x.images) (λ images. with_steps top.x images (steps_of images [] top.x.steps)) script top.then_ in
    let all = with_all top.x images.x (steps_of images.x [] top.x.steps) script images.then_ in
    let counts = top_read table top.x top.first in
    let read = images_read [] top.x.images images.x images.first in
    let ran = steps_read images.x [] top.x.steps all.steps all.first in
    let same_images : images.x ≡ read.added = read.same in
    let same_steps : all.steps ≡ ran.added = ran.same in
    subst IsScript all.same (record {
      ram_base = counts.ram_base;
      some_ram = counts.some_ram;
      few_ram = counts.few_ram;
      time = counts.settings.time;
      rise = counts.settings.rise;
      few_ticks = counts.settings.few_ticks;
      few_images = omega (arith, ap length same_images, read.long, counts.few_images);
      images = rw same_images read.keep;
      some_steps = omega (arith, ap length same_steps, ran.long, counts.some_steps);
      few_steps = omega (arith, ap length same_steps, ran.long, counts.few_steps);
      steps = subst (AreSteps images.x) (sym same_steps) ran.keep;
    })

of_read : (document : Option Members) (script : Plain) → of_document document ≡ Ok script → IsScript script
of_read None script h = cc
of_read (Some table) script h = document_read table script h

pub keeps_forms : ScriptsKeepForms
unfolding script_in
keeps_forms bytes script h = by (is_utf8 bytes) h
  where
    by : (text : Bool) → (if text then of_document (parse_document bytes) else Err (0, kinds.Text)) ≡ Ok script → IsScript script
    by true h = of_read (parse_document bytes) script h
    by false h = cc
