-- A set that isn't refused leaves variables that are valid.
use Rattle.std.proofs.Common.{◌≡◌, ◌≢◌, ℕ, zero, suc, ◌+◌, ◌-◌, ◌<◌, ◌≤◌, ◌^◌, List, [], ◌∷◌, ◌++◌, length, length-append, get_or, refl, sym, subst, arith, Bool, true, false, inl, inr}
use Rattle.std.specs.declared.alloc.AllocError.{AllocError}
use Rattle.std.specs.Prelude.{OnOk, ◌&&◌, ◌||◌, ◌==◌, not, nat_lt, bit_and, slice_get, is_some, Option, Some, None, Result, Ok, Err, if◌then◌else◌}
use Rattle.std.proofs.lemmas.Bool.Decides.{nat_tests}
use Rattle.std.proofs.lemmas.Nat.{and_assoc, and_mask}
use Rattle.std.proofs.lemmas.Option.{slice_get-get_or}
use Rattle.std.proofs.lemmas.List.Sums.{sum_by-cons, sum_by-append}
use Rattle.uh_base.specs.declared.guid.Guid.{Guid}
use Rattle.uh_base.specs.Guid.{IsGuid}
use Rattle.variable_store.specs.declared.asked.Asked.{Asked}
use Rattle.variable_store.specs.declared.refusal.VarRefusal.{VarRefusal}
use Rattle.variable_store.specs.declared.refusal.VarRefusal.TheVariants.{Invalid, Unsupported, NotFound, WriteProtected, Full, Memory}
use Rattle.variable_store.specs.Entries.{Entry, cost, cost_of, total, room_of, place_of, is_append}
use Rattle.variable_store.specs.Sets.{is_bad_name, lacks_boot_access, is_nothing, is_removal, is_write, kept_bits, cannot_be_made, is_barred, need, is_past, refusals, first_refusal, entry_at, refusal_of, changed_at, written, new_entry, with_bytes, without, set_of, Gives}
use Rattle.variable_store.specs.Valid.{AreBelow, IsEntry, AreEntries, AreVariables}
use Rattle.variable_store.proofs.NameLemmas.{tells, or_false, none_named, apart_more, apart_changed}

-- what a set that isn't refused meets
record Accepted (asked : Asked) (there : Option Entry) (hidden : Bool) (room : ℕ) : Type 0 where
  pub name : is_bad_name asked.units ≡ false
  pub access : lacks_boot_access asked.attributes ≡ false
  pub barred : is_barred asked there hidden ≡ false
  pub past : is_past asked there room ≡ false

abbrev AllFalse : List (Bool × VarRefusal) → Type 0
AllFalse [] = Unit {0}
AllFalse (test ∷ tests) = (test.0 ≡ false) × AllFalse tests

all_false : (tests : List (Bool × VarRefusal)) → first_refusal tests ≡ None → AllFalse tests
all_false [] h = tt
all_false (test ∷ tests) h = by test.0 refl h (all_false tests)
  where
    by : (b : Bool) → test.0 ≡ b → (if b then Some test.1 else first_refusal tests) ≡ None → (first_refusal tests ≡ None → AllFalse tests) → (test.0 ≡ false) × AllFalse tests
    by true is k rest = absurd (cc)
    by false is k rest = (is, rest k)

accepted : (asked : Asked) (there : Option Entry) (hidden : Bool) (room : ℕ) → first_refusal (refusals asked there hidden room) ≡ None → Accepted asked there hidden room
accepted asked there hidden room h =
    let all = all_false (refusals asked there hidden room) h in
    record { name = all.0; access = all.1.1.0; barred = all.1.1.1.1.0; past = all.1.1.1.1.1.1.1.0 }

-- numbers below a bound, by their places
pub below_all : (bound : ℕ) (ns : List ℕ) → ((i : ℕ) → get_or ns i 0 < bound) → AreBelow bound ns
below_all bound [] all = tt
below_all bound (n ∷ ns) all = (all 0, below_all bound ns (λ i. all (suc i)))

below_more : (bound : ℕ) (ms ns : List ℕ) → AreBelow bound ms → AreBelow bound ns → AreBelow bound (ms ++ ns)
below_more bound [] ns a b = b
below_more bound (m ∷ ms) ns a b = (a.0, below_more bound ms ns a.1 b)

-- attributes that a variable keeps
kept_small : (attributes : ℕ) → kept_bits attributes < 8
kept_small attributes = omega (arith, and_mask attributes 3)

kept_access : (attributes : ℕ) → lacks_boot_access attributes ≡ false → lacks_boot_access (kept_bits attributes) ≡ false
kept_access attributes h = let same : bit_and (bit_and attributes 7) 6 ≡ bit_and attributes 6 = and_assoc 6 attributes 7 in rw same h

-- a write has bytes
some_bytes : (attributes size : ℕ) → is_nothing attributes size ≡ false → is_removal attributes size ≡ false → 0 < size
some_bytes attributes size nothing removal = by (is_append attributes) nothing removal
  where
    by : (b : Bool) → (b && size == 0) ≡ false → (not b && (size == 0 || bit_and attributes 6 == 0)) ≡ false → 0 < size
    by true h k = grind (arith, nat_tests)
    by false h k = let z = (or_false (size == 0) (bit_and attributes 6 == 0) k).0 in grind (arith, nat_tests)

writes : (attributes size : ℕ) → is_nothing attributes size ≡ false → is_removal attributes size ≡ false → is_write attributes size ≡ true
writes attributes size nothing removal = rw (nothing, removal) refl

within : (asked : Asked) (there : Option Entry) (room : ℕ) → is_write asked.attributes asked.size ≡ true → is_past asked there room ≡ false → need asked there ≤ room
within asked there room write h = let test : (true && nat_lt room (need asked there)) ≡ false = rw write at h in grind (arith, nat_tests)

pub each_more : (entries : List Entry) (f : Entry) → AreEntries entries → IsEntry f → AreEntries (entries ++ f ∷ [])
each_more [] f all h = (h, tt)
each_more (e ∷ es) f all h = (all.0, each_more es f all.1 h)

each_changed : (change : Entry → Entry) (entries : List Entry) (i : ℕ) → AreEntries entries → ((e : Entry) → IsEntry e → IsEntry (change e)) → AreEntries (changed_at change entries i)
unfolding changed_at
each_changed change [] i all keeps = tt
each_changed change (e ∷ es) zero all keeps = (keeps e all.0, all.1)
each_changed change (e ∷ es) (suc i) all keeps = (all.0, each_changed change es i all.1 keeps)

total_changed : (change : Entry → Entry) (entries : List Entry) (i : ℕ) (e : Entry) → slice_get entries i ≡ Some e → total (changed_at change entries i) + cost e ≡ total entries + cost (change e)
unfolding changed_at
total_changed change [] i e h = absurd (cc)
total_changed change (x ∷ xs) zero e h =
    let same : x ≡ e = cc in
    rw (← same) (omega (arith, sum_by-cons cost (change x) xs, sum_by-cons cost x xs))
total_changed change (x ∷ xs) (suc i) e h = omega (arith, sum_by-cons cost x (changed_at change xs i), sum_by-cons cost x xs, total_changed change xs i e h)

pub room_is : (entries : List Entry) → room_of entries ≡ 65_536 - total entries
unfolding room_of
room_is entries = refl

cost_written : (attributes : ℕ) (bytes : List ℕ) (e : Entry) → cost (written attributes bytes e) ≤ cost e + (if is_append attributes then length bytes else length bytes - length e.data)
cost_written attributes bytes e = by (is_append attributes)
  where
    by : (b : Bool) → cost_of (length e.name) (length (if b then e.data ++ bytes else bytes)) ≤ cost e + (if b then length bytes else length bytes - length e.data)
    by true = omega (arith, length-append e.data bytes)
    by false = omega arith

keeps_entry : (attributes : ℕ) (bytes : List ℕ) → 0 < length bytes → AreBelow (2 ^ 8) bytes → (e : Entry) → IsEntry e → IsEntry (written attributes bytes e)
keeps_entry attributes bytes some all e is = by (is_append attributes)
  where
    by : (b : Bool) → IsEntry (record e { «data» = if b then e.data ++ bytes else bytes })
    by true = record { vendor = is.vendor; some_name = is.some_name; short_name = is.short_name; units = is.units; attributes = is.attributes; access = is.access; some_bytes = omega (arith, length-append e.data bytes); bytes = below_more _ e.data bytes is.bytes all }
    by false = record { vendor = is.vendor; some_name = is.some_name; short_name = is.short_name; units = is.units; attributes = is.attributes; access = is.access; some_bytes = some; bytes = all }

-- where a new variable isn't barred after the end of boot services, none is hidden
not_hidden : (asked : Asked) (hidden : Bool) → asked.runtime ≡ true → is_write asked.attributes asked.size ≡ true → is_barred asked None hidden ≡ false → hidden ≡ false
not_hidden asked hidden r w h =
    let made : (true && true && cannot_be_made asked hidden) ≡ false = rw (r, w) at h in
    (or_false hidden _ (or_false _ _ made).0).0

pub is_none : (o : Option ℕ) → is_some o ≡ false → o ≡ None
is_none None h = refl
is_none (Some k) h = absurd (cc)

module _ (entries : List Entry) (name : List ℕ) (vendor : Guid) (attributes : ℕ) (bytes : List ℕ) (runtime : Bool) (valid : AreVariables entries)
    (none : refusal_of entries name vendor attributes (length bytes) runtime ≡ None) where
  meets : Accepted (record { units = length name; attributes = attributes; size = length bytes; runtime = runtime }) (entry_at entries (place_of entries name vendor runtime)) (is_some (place_of entries name vendor false)) (room_of entries)
  unfolding refusal_of
  meets = accepted _ _ _ _ none

  pub set_is_nothing : is_nothing attributes (length bytes) ≡ true → set_of entries name vendor attributes bytes runtime ≡ Ok entries
  unfolding set_of
  set_is_nothing h = rw (none, h) refl

  pub set_removes : (place : Option ℕ) → place ≡ place_of entries name vendor runtime → is_nothing attributes (length bytes) ≡ false → is_removal attributes (length bytes) ≡ true
      → set_of entries name vendor attributes bytes runtime ≡ Ok (without entries place)
  unfolding set_of
  set_removes place is h k = rw (none, h, k, ← is) refl

  pub set_writes : (place : Option ℕ) → place ≡ place_of entries name vendor runtime → is_nothing attributes (length bytes) ≡ false → is_removal attributes (length bytes) ≡ false
      → set_of entries name vendor attributes bytes runtime ≡ Ok (with_bytes entries name vendor attributes bytes place)
  unfolding set_of
  set_writes place is h k = rw (none, h, k, ← is) refl

  module _ (nothing : is_nothing attributes (length bytes) ≡ false) (removal : is_removal attributes (length bytes) ≡ false) (bytes_fit : AreBelow (2 ^ 8) bytes) where
    some : 0 < length bytes
    some = some_bytes attributes (length bytes) nothing removal

    pub changes : (i : ℕ) → Some i ≡ place_of entries name vendor runtime → i < length entries → AreVariables (changed_at (written attributes bytes) entries i)
    changes i is inside =
        let e = get_or entries i (new_entry name vendor attributes bytes) in
        let at : slice_get entries i ≡ Some e = slice_get-get_or entries i (new_entry name vendor attributes bytes) inside in
        let there : entry_at entries (place_of entries name vendor runtime) ≡ Some e = rw (← is) at in
        let past = rw there at meets.past in
        let fits = within (record { units = length name; attributes = attributes; size = length bytes; runtime = runtime }) (Some e) (room_of entries) (writes attributes (length bytes) nothing removal) past in
        let more = total_changed (written attributes bytes) entries i e at in
        let costs = cost_written attributes bytes e in
        let left = room_is entries in
        let room = valid.room in
        record { each = each_changed (written attributes bytes) entries i valid.each (keeps_entry attributes bytes some bytes_fit); apart = apart_changed (written attributes bytes) (λ _. refl) (λ _. refl) entries i valid.apart; room = omega arith }

    hidden_none : place_of entries name vendor runtime ≡ None → place_of entries name vendor false ≡ None
    hidden_none is = elim (tells runtime) [
      | inr no' ↦ subst (λ r. place_of entries name vendor r ≡ None) no' is
      | inl yes' ↦ (
          let there : entry_at entries (place_of entries name vendor runtime) ≡ None = rw is refl in
          let barred = rw there at meets.barred in
          is_none _ (not_hidden (record { units = length name; attributes = attributes; size = length bytes; runtime = runtime }) (is_some (place_of entries name vendor false)) yes' (writes attributes (length bytes) nothing removal) barred))
    ]

    pub adds : None ≡ place_of entries name vendor runtime → IsGuid vendor → AreBelow (2 ^ 16) name → AreVariables (entries ++ new_entry name vendor attributes bytes ∷ [])
    adds is guid units =
        let there : entry_at entries (place_of entries name vendor runtime) ≡ None = rw (← is) refl in
        let past = rw there at meets.past in
        let fits = within (record { units = length name; attributes = attributes; size = length bytes; runtime = runtime }) None (room_of entries) (writes attributes (length bytes) nothing removal) past in
        let short = or_false (length name == 0) (nat_lt 1024 (length name)) meets.name in
        let left = room_is entries in
        let room = valid.room in
        let new = new_entry name vendor attributes bytes in
        let entry : IsEntry new = record {
          vendor = guid;
          some_name = (let z = short.0 in grind (arith, nat_tests));
          short_name = (let z = short.1 in grind (arith, nat_tests));
          units = units;
          attributes = kept_small attributes;
          access = kept_access attributes meets.access;
          some_bytes = some;
          bytes = bytes_fit;
        } in
        let sums = sum_by-append cost entries (new ∷ []) in
        let one = sum_by-cons cost new [] in
        record { each = each_more entries new valid.each entry; apart = apart_more entries new valid.apart (none_named entries name vendor (hidden_none (sym is))); room = omega arith }

-- a refusal by what is found under the name
pub refusal_by : (entries items : List Entry) (name : List ℕ) (vendor : Guid) (attributes size : ℕ) (runtime : Bool) (seen : Option ℕ) (there : Bool) → items ≡ entries
    → seen ≡ place_of items name vendor runtime → there ≡ is_some (place_of items name vendor false)
    → refusal_of entries name vendor attributes size runtime ≡ first_refusal (refusals (record { units = length name; attributes = attributes; size = size; runtime = runtime }) (entry_at entries seen) there (room_of entries))
unfolding refusal_of
refusal_by entries items name vendor attributes size runtime seen there same s t = rw (s, t, same) refl

-- A refusal is given as it is.
pub gives_refusal : (refusal : VarRefusal) (wanted : Result (List Entry) VarRefusal) (old new : List Entry) → refusal ≢ Memory → wanted ≡ Err refusal → new ≡ old → Gives (Err refusal) wanted old new
gives_refusal Invalid wanted old new other is same = (is, same)
gives_refusal Unsupported wanted old new other is same = (is, same)
gives_refusal NotFound wanted old new other is same = (is, same)
gives_refusal WriteProtected wanted old new other is same = (is, same)
gives_refusal Full wanted old new other is same = (is, same)
gives_refusal Memory wanted old new other is same = same

pub refused : (entries : List Entry) (name : List ℕ) (vendor : Guid) (attributes : ℕ) (bytes : List ℕ) (runtime : Bool) (refusal : VarRefusal) → refusal_of entries name vendor attributes (length bytes) runtime ≡ Some refusal
    → set_of entries name vendor attributes bytes runtime ≡ Err refusal
unfolding set_of
refused entries name vendor attributes bytes runtime refusal h = rw h refl

-- what a change leaves, where memory was there for it
pub set_to : (result : Result (Unit {0}) AllocError) (wanted : Result (List Entry) VarRefusal) (entries new : List Entry) → wanted ≡ Ok entries → OnOk result (new ≡ entries) → OnOk result (wanted ≡ Ok new)
set_to (Ok _) wanted entries new is same = rw same is
set_to (Err _) wanted entries new is same = tt
