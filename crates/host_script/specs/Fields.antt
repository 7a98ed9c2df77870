-- Keys of a TOML table, judged one at a time.
use Rattle.std.specs.Prelude.{◌+◌, ◌&&◌, ℕ, pos, negsuc, List, Bool, true, false, nat_le, nat_lt, Option, Some, None, Result, Ok, Err, option_copied, unwrap_or, if◌then◌else◌}
use Rattle.std.specs.List.{list_any}
use Rattle.std.specs.Str.{bytes_eq}
use Rattle.std.specs.Borrow.{Bor}
use Rattle.toml.specs.Data.{Data, string, integer, boolean, array, table, Items, no_items, item, Members, no_members, member, get_member}
use Rattle.toml.specs.View.{items_view}
use Rattle.toml.specs.declared.value.Value.{Value as TomlValue}
use Rattle.uh_base.specs.Numbers.{number_of}
use Rattle.host_script.specs.Faults.{◌>>=◌}
use Rattle.host_script.specs.declared.fault.ScriptKind.{ScriptKind}
use Rattle.host_script.specs.declared.fault.ScriptKind.TheVariants as kinds

-- ---- keys

abbrev pub keys_pass : (List ℕ → Bool) → Members → Bool
keys_pass p no_members = true
keys_pass p (member key content members) = p key && keys_pass p members

-- the key is one of the words
abbrev pub is_among : List (List ℕ) → List ℕ → Bool
is_among words key = list_any (λ word. bytes_eq word key) words

-- every key is known
unfoldable pub only_keys : List (List ℕ) → Members → Result (Unit {0}) ScriptKind
only_keys words members = if keys_pass (is_among words) members then Ok tt else Err kinds.Key

-- the key is there
abbrev pub is_there : Option Data → Bool
is_there None = false
is_there (Some content) = true

unfoldable pub has_key : List ℕ → Members → Bool
has_key key members = is_there (get_member key members)

-- ---- the value of a key, where the key is there

-- a text
abbrev pub text_in : Option Data → Result (Option (List ℕ)) ScriptKind
text_in None = Ok None
text_in (Some (string text)) = Ok (Some text)
text_in (Some _) = Err kinds.Shape

unfoldable pub text_field : List ℕ → Members → Result (Option (List ℕ)) ScriptKind
text_field key members = text_in (get_member key members)

-- true or false
abbrev pub flag_in : Option Data → Result (Option Bool) ScriptKind
flag_in None = Ok None
flag_in (Some (boolean flag)) = Ok (Some flag)
flag_in (Some _) = Err kinds.Shape

unfoldable pub flag_field : List ℕ → Members → Result (Option Bool) ScriptKind
flag_field key members = flag_in (get_member key members)

-- a number text
abbrev pub number_or_value : Option ℕ → Result (Option ℕ) ScriptKind
number_or_value None = Err kinds.Value
number_or_value (Some n) = Ok (Some n)

abbrev pub number_in : Option (List ℕ) → Result (Option ℕ) ScriptKind
number_in None = Ok None
number_in (Some text) = number_or_value (number_of text)

unfoldable pub number_field : List ℕ → Members → Result (Option ℕ) ScriptKind
number_field key members = text_field key members >>= number_in

-- an integer from low to high
abbrev pub integer_in : ℕ → ℕ → Option Data → Result (Option ℕ) ScriptKind
integer_in low high None = Ok None
integer_in low high (Some (integer (pos n))) = if nat_le low n && nat_le n high then Ok (Some n) else Err kinds.Value
integer_in low high (Some (integer (negsuc n))) = Err kinds.Value
integer_in low high (Some _) = Err kinds.Shape

unfoldable pub integer_field : List ℕ → ℕ → ℕ → Members → Result (Option ℕ) ScriptKind
integer_field key low high members = integer_in low high (get_member key members)

-- the same, and a usual number where the key isn't there
abbrev pub or_usual : ℕ → Option ℕ → Result ℕ ScriptKind
or_usual usual n = Ok (unwrap_or n usual)

unfoldable pub integer_or : List ℕ → ℕ → ℕ → ℕ → Members → Result ℕ ScriptKind
integer_or key low high usual members = integer_field key low high members >>= or_usual usual

-- a list of tables, empty where the key isn't there
abbrev pub are_tables : Items → Bool
are_tables no_items = true
are_tables (item (table keys) items) = are_tables items
are_tables (item _ items) = false

abbrev pub tables_in : Option Data → Result Items ScriptKind
tables_in None = Ok no_items
tables_in (Some (array items)) = if are_tables items then Ok items else Err kinds.Shape
tables_in (Some _) = Err kinds.Shape

unfoldable pub tables_field : List ℕ → Members → Result Items ScriptKind
tables_field key members = tables_in (get_member key members)

-- a list of at most so many
abbrev pub items_len : Items → ℕ
items_len no_items = 0
items_len (item content items) = items_len items + 1

unfoldable pub counted : ℕ → Items → Result Items ScriptKind
counted most items = if nat_lt most (items_len items) then Err kinds.Count else Ok items

-- a key that has to be there
abbrev pub needed : {A : Type 0} → Result (Option A) ScriptKind → Result A ScriptKind
needed (Ok (Some x)) = Ok x
needed (Ok None) = Err kinds.Missing
needed (Err e) = Err e

-- ---- what the program has borrowed

abbrev pub seen : {A : Type 0} → Result (Option (Bor A)) ScriptKind → Result (Option A) ScriptKind
seen (Ok o) = Ok (option_copied o)
seen (Err e) = Err e

abbrev pub seen_one : {A : Type 0} → Result (Bor A) ScriptKind → Result A ScriptKind
seen_one (Ok x) = Ok x.now
seen_one (Err e) = Err e

abbrev pub seen_items : Result (Bor (List TomlValue)) ScriptKind → Result Items ScriptKind
seen_items (Ok values) = Ok (items_view values.now)
seen_items (Err e) = Err e
