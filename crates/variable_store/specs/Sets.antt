-- Setting a variable: the order of the refusals, and the variables behind a set that none refuses (UEFI 2.10,
-- section 8.2, SetVariable).
use Rattle.std.specs.Prelude.{ℕ, zero, suc, ◌≡◌, ◌-◌, ◌==◌, ◌&&◌, ◌||◌, not, nat_lt, bit_and, bit_or, Bool, false, List, [], ◌∷◌, ◌++◌, length, remove, slice_get, is_some, Option, Some, None, Result, Ok, Err, if◌then◌else◌}
use Rattle.uh_base.specs.declared.guid.Guid.{Guid}
use Rattle.variable_store.specs.declared.asked.Asked.{Asked}
use Rattle.variable_store.specs.declared.refusal.VarRefusal.{VarRefusal}
use Rattle.variable_store.specs.declared.refusal.VarRefusal.TheVariants.{Invalid, Unsupported, NotFound, WriteProtected, Full, Memory}
use Rattle.variable_store.specs.Entries.{Entry, is_non_volatile, is_runtime, is_append, cost_of, room_of, place_of}

-- no name, or one above 1,024 units
abbrev pub is_bad_name : ℕ → Bool
is_bad_name units = units == 0 || nat_lt 1024 units

-- attributes beside non-volatile, boot access, runtime access and append
abbrev pub has_other_bits : ℕ → Bool
has_other_bits attributes = not (bit_or attributes 0x47 == 0x47)

-- runtime access without boot access
abbrev pub lacks_boot_access : ℕ → Bool
lacks_boot_access attributes = bit_and attributes 6 == 4

-- an append of nothing changes nothing
abbrev pub is_nothing : ℕ → ℕ → Bool
is_nothing attributes size = is_append attributes && size == 0

-- without append, a set of no bytes removes, and so does one without boot and runtime access
abbrev pub is_removal : ℕ → ℕ → Bool
is_removal attributes size = not (is_append attributes) && (size == 0 || bit_and attributes 6 == 0)

-- a set that gives a variable its bytes
abbrev pub is_write : ℕ → ℕ → Bool
is_write attributes size = not (is_nothing attributes size) && not (is_removal attributes size)

-- the attributes that a variable keeps
abbrev pub kept_bits : ℕ → ℕ
kept_bits attributes = bit_and attributes 7

-- After the end of boot services a volatile variable can't be changed.
abbrev pub is_protected : Asked → Option Entry → Bool
is_protected asked None = false
is_protected asked (Some entry) = not (is_non_volatile entry.attributes) && asked.runtime && not (is_nothing asked.attributes asked.size)

-- A new variable needs there to outlive the run and to be seen, and no unseen one may have its name.
abbrev pub cannot_be_made : Asked → Bool → Bool
cannot_be_made asked hidden = hidden || not (is_non_volatile asked.attributes) || not (is_runtime asked.attributes)

abbrev pub is_barred : Asked → Option Entry → Bool → Bool
is_barred asked (Some entry) hidden = false
is_barred asked None hidden = asked.runtime && is_write asked.attributes asked.size && cannot_be_made asked hidden

-- There is nothing to remove.
abbrev pub is_missed : Asked → Option Entry → Bool
is_missed asked (Some entry) = false
is_missed asked None = is_removal asked.attributes asked.size

-- A variable keeps its attributes.
abbrev pub is_other : Asked → Option Entry → Bool
is_other asked None = false
is_other asked (Some entry) = not (entry.attributes == kept_bits asked.attributes) && is_write asked.attributes asked.size

-- how much of the room a write takes
abbrev pub need : Asked → Option Entry → ℕ
need asked None = cost_of asked.units asked.size
need asked (Some entry) = if is_append asked.attributes then asked.size else asked.size - length entry.data

abbrev pub is_past : Asked → Option Entry → ℕ → Bool
is_past asked there room = is_write asked.attributes asked.size && nat_lt room (need asked there)

-- The tests in their order, each with its refusal: `there` is the variable that is seen, `hidden` says that one is
-- there that isn't seen, and `room` is the room that is left.
abbrev pub refusals : Asked → Option Entry → Bool → ℕ → List (Bool × VarRefusal)
refusals asked there hidden room =
    (is_bad_name asked.units, Invalid)
    ∷ (has_other_bits asked.attributes, Unsupported)
    ∷ (lacks_boot_access asked.attributes, Invalid)
    ∷ (is_protected asked there, WriteProtected)
    ∷ (is_barred asked there hidden, Invalid)
    ∷ (is_missed asked there, NotFound)
    ∷ (is_other asked there, Invalid)
    ∷ (is_past asked there room, Full)
    ∷ []

-- the first refusal whose test holds
abbrev pub first_refusal : List (Bool × VarRefusal) → Option VarRefusal
first_refusal [] = None
first_refusal (test ∷ tests) = if test.0 then Some test.1 else first_refusal tests

-- the variable at a place
abbrev pub entry_at : List Entry → Option ℕ → Option Entry
entry_at entries None = None
entry_at entries (Some place) = slice_get entries place

-- why a set of so many bytes is refused
unfoldable pub refusal_of : List Entry → List ℕ → Guid → ℕ → ℕ → Bool → Option VarRefusal
refusal_of entries name vendor attributes size runtime =
    first_refusal (refusals (record { units = length name; attributes = attributes; size = size; runtime = runtime })
    (entry_at entries (place_of entries name vendor runtime)) (is_some (place_of entries name vendor false)) (room_of entries))

-- an entry changed in place
unfoldable pub changed_at : (Entry → Entry) → List Entry → ℕ → List Entry
changed_at change [] place = []
changed_at change (entry ∷ entries) zero = change entry ∷ entries
changed_at change (entry ∷ entries) (suc place) = entry ∷ changed_at change entries place

-- an entry with other bytes, or with more
abbrev pub written : ℕ → List ℕ → Entry → Entry
written attributes bytes entry = record entry { «data» = if is_append attributes then entry.data ++ bytes else bytes }

-- a new variable
abbrev pub new_entry : List ℕ → Guid → ℕ → List ℕ → Entry
new_entry name vendor attributes bytes = record { vendor = vendor; name = name; attributes = kept_bits attributes; «data» = bytes }

abbrev pub with_bytes : List Entry → List ℕ → Guid → ℕ → List ℕ → Option ℕ → List Entry
with_bytes entries name vendor attributes bytes None = entries ++ new_entry name vendor attributes bytes ∷ []
with_bytes entries name vendor attributes bytes (Some place) = changed_at (written attributes bytes) entries place

abbrev pub without : List Entry → Option ℕ → List Entry
without entries None = entries
without entries (Some place) = remove entries place

-- the variables behind a set that isn't refused
abbrev pub after_set : List Entry → List ℕ → Guid → ℕ → List ℕ → Option ℕ → List Entry
after_set entries name vendor attributes bytes place =
    if is_nothing attributes (length bytes) then entries
    else if is_removal attributes (length bytes) then without entries place
    else with_bytes entries name vendor attributes bytes place

abbrev pub answered : Option VarRefusal → List Entry → Result (List Entry) VarRefusal
answered None entries = Ok entries
answered (Some refusal) entries = Err refusal

-- SetVariable
unfoldable pub set_of : List Entry → List ℕ → Guid → ℕ → List ℕ → Bool → Result (List Entry) VarRefusal
set_of entries name vendor attributes bytes runtime =
    answered (refusal_of entries name vendor attributes (length bytes) runtime) (after_set entries name vendor attributes bytes (place_of entries name vendor runtime))

-- A set that answers so leads from variables to others. Want of memory may come at any set; then, as after each
-- refusal, the variables are as before.
abbrev pub Gives : Result (Unit {0}) VarRefusal → Result (List Entry) VarRefusal → List Entry → List Entry → Type 0
Gives (Ok _) wanted old new = wanted ≡ Ok new
Gives (Err Memory) wanted old new = new ≡ old
Gives (Err Invalid) wanted old new = (wanted ≡ Err Invalid) × (new ≡ old)
Gives (Err Unsupported) wanted old new = (wanted ≡ Err Unsupported) × (new ≡ old)
Gives (Err NotFound) wanted old new = (wanted ≡ Err NotFound) × (new ≡ old)
Gives (Err WriteProtected) wanted old new = (wanted ≡ Err WriteProtected) × (new ≡ old)
Gives (Err Full) wanted old new = (wanted ≡ Err Full) × (new ≡ old)
