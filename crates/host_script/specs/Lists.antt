-- Lists of texts, each read by one form.
use Rattle.std.specs.Prelude.{◌++◌, ℕ, Bool, true, false, List, [], ◌∷◌, length, nat_lt, Option, Some, None, Result, Ok, Err, if◌then◌else◌}
use Rattle.toml.specs.Data.{Data, array, Items, no_items, item, Members, get_member, as_str}
use Rattle.host_script.specs.Faults.{◌>>=◌}
use Rattle.host_script.specs.declared.fault.ScriptKind.{ScriptKind}
use Rattle.host_script.specs.declared.fault.ScriptKind.TheVariants as kinds

-- Each item is a text.
abbrev pub is_text : Option (List ℕ) → Bool
is_text None = false
is_text (Some text) = true

abbrev pub are_texts : Items → Bool
are_texts no_items = true
are_texts (item content items) = if is_text (as_str content) then are_texts items else false

-- a list of texts, empty where the key isn't there
abbrev pub texts_in : Option Data → Result Items ScriptKind
texts_in None = Ok no_items
texts_in (Some (array items)) = if are_texts items then Ok items else Err kinds.Shape
texts_in (Some _) = Err kinds.Shape

unfoldable pub texts_field : List ℕ → Members → Result Items ScriptKind
texts_field key members = texts_in (get_member key members)

-- what is read, where it has the form
abbrev pub or_value : {A : Type 0} → Option A → Result A ScriptKind
or_value None = Err kinds.Value
or_value (Some x) = Ok x

abbrev pub text_or_shape : Option (List ℕ) → Result (List ℕ) ScriptKind
text_or_shape None = Err kinds.Shape
text_or_shape (Some text) = Ok text

unfoldable pub form_at : {A : Type 0} → (List ℕ → Option A) → Data → Result A ScriptKind
form_at form content = text_or_shape (as_str content) >>= λ text. or_value (form text)

-- what the texts of a list are read as by a form, behind what was read before
unfoldable pub forms_of : {A : Type 0} → (List ℕ → Option A) → List A → Items → Result (List A) ScriptKind
forms_of form before no_items = Ok before
forms_of form before (item content items) = form_at form content >>= λ x. forms_of form (before ++ x ∷ []) items

-- at most so many
abbrev pub few : {A : Type 0} → ℕ → List A → Result (List A) ScriptKind
few most items = if nat_lt most (length items) then Err kinds.Count else Ok items

-- the texts of a key, read by a form, at most so many
unfoldable pub listed : {A : Type 0} → (List ℕ → Option A) → List ℕ → ℕ → Members → Result (List A) ScriptKind
listed form key most members = (texts_field key members >>= forms_of form []) >>= few most
