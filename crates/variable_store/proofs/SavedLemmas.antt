-- What is loaded of what was saved.
use Rattle.std.proofs.Common.{◌≡◌, ℕ, ◌*◌, ◌<◌, ◌≤◌, ◌^◌, List, [], ◌∷◌, ◌++◌, length, length-append, take, drop, refl, sym, ap, ◌∙◌, append_assoc, append-nil, arith, Bool, true, false}
use Rattle.std.specs.Prelude.{◌==◌, not, nat_lt, nat_le, codes, if◌then◌else◌, is_some, None, Result, Ok}
use Rattle.std.specs.Int.{w32, to_le_bytes, from_le_bytes}
use Rattle.std.specs.List.{flat_map}
use Rattle.std.specs.Str.{bytes_eq}
use Rattle.std.proofs.lemmas.Bool.Decides.{nat_tests}
use Rattle.std.proofs.Math.Seq.{take-append_seam, drop-append_seam}
use Rattle.std.proofs.lemmas.List.Sums.{sum_by-cons, sum_by-append}
use Rattle.std.proofs.lemmas.Nat.{from_le_bytes-to_le_bytes_2, from_le_bytes-to_le_bytes_4}
use Rattle.uh_base.specs.declared.guid.Guid.{Guid}
use Rattle.uh_base.specs.Guid.{IsGuid, bytes_of, guid_of}
use Rattle.variable_store.specs.declared.reading.Header.{Header}
use Rattle.variable_store.specs.Entries.{Entry, cost, cost_of, total, room_of, index_of, place_of, is_named, is_non_volatile}
use Rattle.variable_store.specs.Sets.{is_bad_name, lacks_boot_access}
use Rattle.variable_store.specs.Valid.{AreBelow, IsEntry, AreEntries, NoneNamed, AreApart, AreVariables}
use Rattle.variable_store.specs.Store.{kept, unit_bytes, entry_bytes, store_of}
use Rattle.variable_store.specs.Reading.{field, number, guid, units_in, fits_attributes, fits_size, head, entry, entries, store_in}
use Rattle.variable_store.proofs.NameLemmas.{and_both, named_turned}
use Rattle.variable_store.proofs.SetLemmas.{room_is}
use Rattle.variable_store.proofs.EditLemmas.{few}
use Rattle.variable_store.proofs.StoreLemmas.{GuidsBack}

-- a field that stands in front
field_reads : (count size : ℕ) (front rest : List ℕ) → length front ≡ count → field count size (front ++ rest) ≡ Ok (front, rest)
unfolding field
field_reads count size front rest h =
    let long = length-append front rest in
    let test : nat_lt (length (front ++ rest)) count ≡ false = grind (arith, nat_tests) in
    let first : take count (front ++ rest) ≡ front = rw (← h) (take-append_seam front rest) in
    let last : drop count (front ++ rest) ≡ rest = rw (← h) (drop-append_seam front rest) in
    rw (test, first, last) refl

number_reads : (size n : ℕ) (front rest : List ℕ) → front ≡ to_le_bytes w32 n → n < 2 ^ 32 → number size (front ++ rest) ≡ Ok (n, rest)
unfolding number
number_reads size n front rest is h =
    let four : length front ≡ 4 = ap length is in
    let back : from_le_bytes w32 front ≡ n = ap (from_le_bytes w32) is ∙ from_le_bytes-to_le_bytes_4 n h in
    rw (field_reads 4 size front rest four, back) refl

guid_reads : GuidsBack → (size : ℕ) (g : Guid) (front rest : List ℕ) → front ≡ bytes_of g → IsGuid g → guid size (front ++ rest) ≡ Ok (g, rest)
unfolding guid bytes_of
guid_reads again size g front rest is h =
    let sixteen : length front ≡ 16 = ap length is in
    let back : guid_of front ≡ g = ap guid_of is ∙ again g h in
    rw (field_reads 16 size front rest sixteen, back) refl

units_back : (name : List ℕ) → AreBelow (2 ^ 16) name → units_in (unit_bytes name) ≡ name
unfolding units_in
units_back [] all = refl
units_back (n ∷ ns) all = rw (from_le_bytes-to_le_bytes_2 n all.0, units_back ns all.1) refl

units_long : (name : List ℕ) → length (unit_bytes name) ≡ 2 * length name
units_long [] = refl
units_long (n ∷ ns) = omega (arith, units_long ns)

head_reads : (size room attributes units bytes : ℕ) (vendor : Guid) (a b c d e : List ℕ) → guid size a ≡ Ok (vendor, b) → number size b ≡ Ok (attributes, c) → fits_attributes attributes ≡ true → number size c ≡ Ok (units, d) → not (is_bad_name units) ≡ true → number size d ≡ Ok (bytes, e) → fits_size units bytes room ≡ true
    → head size a room ≡ Ok (record { vendor = vendor; attributes = attributes; units = units; size = bytes }, e)
unfolding head
head_reads size room attributes units bytes vendor a b c d e g n fits m name k room_fits = rw (g, n, fits, m, name, k, room_fits) refl

entry_reads : (size : ℕ) (before : List Entry) (h : Header) (a b c d n p : List ℕ) → head size a (room_of before) ≡ Ok (h, b) → field (2 * h.units) size b ≡ Ok (n, c) → is_some (place_of before (units_in n) h.vendor false) ≡ false → field h.size size c ≡ Ok (p, d)
    → entry size a before ≡ Ok (record { vendor = h.vendor; name = units_in n; attributes = h.attributes; «data» = p }, d)
unfolding entry
entry_reads size before h a b c d n p first name new last = rw (first, name, new, last) refl

-- the bytes of a variable with others behind them
pub regroup : (a b c d n p rest : List ℕ) → (a ++ (b ++ (c ++ (d ++ (n ++ p))))) ++ rest ≡ a ++ (b ++ (c ++ (d ++ (n ++ (p ++ rest)))))
regroup a b c d n p rest = simp append_assoc

-- none before has the name
not_there : (before : List Entry) (e : Entry) (behind : List Entry) → AreApart (before ++ e ∷ behind) → place_of before e.name e.vendor false ≡ None
unfolding index_of
not_there [] e behind all = refl
not_there (b ∷ bs) e behind all =
    let h = named_turned e b (other bs e behind all.0) in
    rw (h, not_there bs e behind all.1) refl
  where
    other : (bs : List Entry) (e : Entry) (behind : List Entry) → NoneNamed b.name b.vendor (bs ++ e ∷ behind) → is_named b.name b.vendor e ≡ false
    other [] e behind all = all.0
    other (x ∷ xs) e behind all = other xs e behind all.1

each_there : (before : List Entry) (e : Entry) (behind : List Entry) → AreEntries (before ++ e ∷ behind) → IsEntry e
each_there [] e behind all = all.0
each_there (b ∷ bs) e behind all = each_there bs e behind all.1

abbrev pub AllKept : List Entry → Type 0
AllKept [] = Unit {0}
AllKept (e ∷ es) = (is_non_volatile e.attributes ≡ true) × AllKept es

kept_fits : (e : Entry) → IsEntry e → is_non_volatile e.attributes ≡ true → fits_attributes e.attributes ≡ true
kept_fits e is k =
    let low = is.attributes in
    let small : nat_lt e.attributes 8 ≡ true = grind (arith, nat_tests) in
    let access : not (lacks_boot_access e.attributes) ≡ true = rw is.access refl in
    and_both _ _ (and_both _ _ k small) access

name_fits : (e : Entry) → IsEntry e → not (is_bad_name (length e.name)) ≡ true
name_fits e is =
    let some = is.some_name in
    let short = is.short_name in
    let one : (length e.name == 0) ≡ false = grind (arith, nat_tests) in
    let two : nat_lt 1024 (length e.name) ≡ false = grind (arith, nat_tests) in
    rw (one, two) refl

size_fits : (e : Entry) (room : ℕ) → IsEntry e → cost e ≤ room → fits_size (length e.name) (length e.data) room ≡ true
size_fits e room is h =
    let some = is.some_bytes in
    let one : (length e.data == 0) ≡ false = grind (arith, nat_tests) in
    let two : nat_le (cost_of (length e.name) (length e.data)) room ≡ true = grind (arith, nat_tests) in
    rw (one, two) refl

-- a variable is read from its bytes
entry_back : GuidsBack → (size : ℕ) (before : List Entry) (e : Entry) (rest : List ℕ) → IsEntry e → is_non_volatile e.attributes ≡ true → cost e ≤ room_of before → cost e ≤ 65_536 → place_of before e.name e.vendor false ≡ None
    → entry size (entry_bytes e ++ rest) before ≡ Ok (e, rest)
unfolding entry_bytes
entry_back again size before e rest is k fits few new =
    let low = is.attributes in
    let name_bytes = unit_bytes e.name in
    let there = units_back e.name is.units in
    let b0 = bytes_of e.vendor in
    let b1 = to_le_bytes w32 e.attributes in
    let b2 = to_le_bytes w32 (length e.name) in
    let b3 = to_le_bytes w32 (length e.data) in
    let h : Header = record { vendor = e.vendor; attributes = e.attributes; units = length e.name; size = length e.data } in
    let first : head size (b0 ++ (b1 ++ (b2 ++ (b3 ++ (name_bytes ++ (e.data ++ rest)))))) (room_of before) ≡ Ok (h, name_bytes ++ (e.data ++ rest)) =
    head_reads size (room_of before) e.attributes (length e.name) (length e.data) e.vendor _ _ _ _ _
    (guid_reads again size e.vendor b0 _ refl is.vendor) (number_reads size e.attributes b1 _ refl (omega arith)) (kept_fits e is k)
    (number_reads size (length e.name) b2 _ refl (omega arith)) (name_fits e is)
    (number_reads size (length e.data) b3 _ refl (omega arith)) (size_fits e (room_of before) is fits) in
    let name : is_some (place_of before (units_in name_bytes) e.vendor false) ≡ false = rw (there, new) refl in
    let all = entry_reads size before h _ _ _ rest name_bytes e.data first (field_reads (2 * length e.name) size name_bytes (e.data ++ rest) (units_long e.name)) name (field_reads (length e.data) size e.data rest refl) in
    ap (λ bytes. entry size bytes before) (regroup b0 b1 b2 b3 name_bytes e.data rest) ∙ all ∙ ap (λ n. Ok (record { vendor = e.vendor; name = n; attributes = e.attributes; «data» = e.data }, rest)) there

-- variables are read from theirs
entries_back : GuidsBack → (size : ℕ) (es before : List Entry) → AreVariables (before ++ es) → AllKept es → entries (length es) size (flat_map entry_bytes es) before ≡ Ok (before ++ es)
unfolding entries
entries_back again size [] before valid k = ap Ok (sym (append-nil before))
entries_back again size (e ∷ es) before valid k =
    let sums = sum_by-append cost before (e ∷ es) in
    let one = sum_by-cons cost e es in
    let room = valid.room in
    let left = room_is before in
    let here = entry_back again size before e (flat_map entry_bytes es) (each_there before e es valid.each) k.0 (omega arith) (omega arith) (not_there before e es valid.apart) in
    let group : (before ++ e ∷ []) ++ es ≡ before ++ e ∷ es = append_assoc before (e ∷ []) es in
    let rest : entries (length es) size (flat_map entry_bytes es) (before ++ e ∷ []) ≡ Ok ((before ++ e ∷ []) ++ es) = entries_back again size es (before ++ e ∷ []) (rw group valid) k.1 in
    rw here (rest ∙ ap Ok group)

-- the variables that outlive a run, among all
less_kept : (entries : List Entry) → total (kept entries) ≤ total entries
less_kept [] = omega arith
less_kept (e ∷ es) = by (is_non_volatile e.attributes) (less_kept es)
  where
    by : (b : Bool) → total (kept es) ≤ total es → total (if b then e ∷ kept es else kept es) ≤ total (e ∷ es)
    by true h = omega (arith, sum_by-cons cost e (kept es), sum_by-cons cost e es)
    by false h = omega (arith, sum_by-cons cost e es)

each_kept : (entries : List Entry) → AreEntries entries → AreEntries (kept entries)
each_kept [] all = tt
each_kept (e ∷ es) all = by (is_non_volatile e.attributes) (each_kept es all.1)
  where
    by : (b : Bool) → AreEntries (kept es) → AreEntries (if b then e ∷ kept es else kept es)
    by true h = (all.0, h)
    by false h = h

none_kept : (name : List ℕ) (vendor : Guid) (entries : List Entry) → NoneNamed name vendor entries → NoneNamed name vendor (kept entries)
none_kept name vendor [] all = tt
none_kept name vendor (e ∷ es) all = by (is_non_volatile e.attributes) (none_kept name vendor es all.1)
  where
    by : (b : Bool) → NoneNamed name vendor (kept es) → NoneNamed name vendor (if b then e ∷ kept es else kept es)
    by true h = (all.0, h)
    by false h = h

apart_kept : (entries : List Entry) → AreApart entries → AreApart (kept entries)
apart_kept [] all = tt
apart_kept (e ∷ es) all = by (is_non_volatile e.attributes) (apart_kept es all.1)
  where
    by : (b : Bool) → AreApart (kept es) → AreApart (if b then e ∷ kept es else kept es)
    by true h = (none_kept e.name e.vendor es all.0, h)
    by false h = h

all_kept : (entries : List Entry) → AllKept (kept entries)
all_kept [] = tt
all_kept (e ∷ es) = by (is_non_volatile e.attributes) refl (all_kept es)
  where
    by : (b : Bool) → is_non_volatile e.attributes ≡ b → AllKept (kept es) → AllKept (if b then e ∷ kept es else kept es)
    by true k h = (k, h)
    by false k h = h

store_reads : (bytes magic b c : List ℕ) (count : ℕ) (read : Result (List Entry) ℕ) → field 4 (length bytes) bytes ≡ Ok (magic, b) → bytes_eq magic (codes "UVS1") ≡ true → number (length bytes) b ≡ Ok (count, c) → entries count (length bytes) c [] ≡ read → store_in bytes ≡ read
unfolding store_in
store_reads bytes magic b c count read first is n rest = rw (first, is, n) rest

pub saved_is_loaded : GuidsBack → (entries : List Entry) → AreVariables entries → store_in (store_of entries) ≡ Ok (kept entries)
unfolding store_of
saved_is_loaded again es valid =
    let room = valid.room in
    let less = less_kept es in
    let many = few (kept es) in
    let kept_valid : AreVariables (kept es) = record { each = each_kept es valid.each; apart = apart_kept es valid.apart; room = omega arith } in
    let bytes = store_of es in
    store_reads bytes (codes "UVS1") (to_le_bytes w32 (length (kept es)) ++ flat_map entry_bytes (kept es)) (flat_map entry_bytes (kept es)) (length (kept es)) (Ok (kept es))
    (field_reads 4 (length bytes) (codes "UVS1") _ refl) refl (number_reads (length bytes) (length (kept es)) (to_le_bytes w32 (length (kept es))) _ refl (omega arith))
    (entries_back again (length bytes) (kept es) [] kept_valid (all_kept es))
