-- What is saved of what was loaded.
use Rattle.std.proofs.Common.{◌≡◌, ℕ, zero, suc, ◌*◌, ◌<◌, ◌≤◌, ◌^◌, List, [], ◌∷◌, ◌++◌, length, take, drop, get_or, refl, sym, ap, ◌∙◌, subst, append_assoc, append-nil, arith, Bool, true, false}
use Rattle.std.specs.Prelude.{◌==◌, not, nat_lt, codes, if◌then◌else◌, is_some, Result, Ok, Err}
use Rattle.std.specs.Int.{w16, w32, to_le_bytes, from_le_bytes}
use Rattle.std.specs.List.{flat_map}
use Rattle.std.specs.Str.{bytes_eq}
use Rattle.std.proofs.lemmas.Bool.Decides.{nat_tests}
use Rattle.std.proofs.lemmas.Nat.{le_bytes_2, le_bytes_4}
use Rattle.std.proofs.lemmas.Slice.Eq.{bytes_eq-Decides}
use Rattle.std.proofs.lemmas.List.{take-append-drop, length-take-le, get_or_default}
use Rattle.uh_base.specs.declared.guid.Guid.{Guid}
use Rattle.uh_base.specs.Guid.{bytes_of, guid_of}
use Rattle.uh_base.specs.Answers.{◌>>=◌}
use Rattle.variable_store.specs.declared.reading.Header.{Header}
use Rattle.variable_store.specs.Entries.{Entry, room_of, place_of, is_non_volatile}
use Rattle.variable_store.specs.Sets.{is_bad_name}
use Rattle.variable_store.specs.Valid.{AreBelow}
use Rattle.variable_store.specs.Store.{kept, unit_bytes, entry_bytes, store_of}
use Rattle.variable_store.specs.Reading.{offset, field, number, guid, units_in, guard, fits_attributes, fits_size, head, entry, entries, store_in}
use Rattle.variable_store.proofs.NameLemmas.{and_true}
use Rattle.variable_store.proofs.LoadLemmas.{length_units}
use Rattle.variable_store.proofs.SavedLemmas.{AllKept, regroup}
use Rattle.variable_store.proofs.StoreLemmas.{BytesBack}

-- a step that went well
record Went {A B : Type 0} (r : Result A ℕ) (next : A → Result B ℕ) (y : B) : Type 0 where
  pub value : A
  pub first : r ≡ Ok value
  pub second : next value ≡ Ok y

went : {A B : Type 0} (r : Result A ℕ) (next : A → Result B ℕ) (y : B) → (r >>= next) ≡ Ok y → Went r next y
went (Ok x) next y h = record { value = x; first = refl; second = h }
went (Err at) next y h = absurd (cc)

guarded : {B : Type 0} (b : Bool) (at : ℕ) (r : Result B ℕ) (y : B) → (guard b at >>= λ _. r) ≡ Ok y → (b ≡ true) × (r ≡ Ok y)
guarded true at r y h = (refl, h)
guarded false at r y h = absurd (cc)

abbrev IsOf : {A : Type 0} → Result A ℕ → A → Type 0
IsOf r y = r ≡ Ok y

ok_is : {A : Type 0} (x y : A) → IsOf (Ok x) y → x ≡ y
ok_is x y h = cc

by_place : (bound : ℕ) (ns : List ℕ) → AreBelow bound ns → 0 < bound → (i : ℕ) → get_or ns i 0 < bound
by_place bound [] all some i = some
by_place bound (n ∷ ns) all some zero = all.0
by_place bound (n ∷ ns) all some (suc i) = by_place bound ns all.1 some i

front_below : (bound : ℕ) (ms ns : List ℕ) → AreBelow bound (ms ++ ns) → AreBelow bound ms
front_below bound [] ns all = tt
front_below bound (m ∷ ms) ns all = (all.0, front_below bound ms ns all.1)

rest_below : (bound : ℕ) (ms ns : List ℕ) → AreBelow bound (ms ++ ns) → AreBelow bound ns
rest_below bound [] ns all = all
rest_below bound (m ∷ ms) ns all = rest_below bound ms ns all.1

-- bytes that are spelled so in front
record Takes (rest front behind : List ℕ) : Type 0 where
  pub same : rest ≡ front ++ behind
  pub below : AreBelow (2 ^ 8) behind

record Fields (count : ℕ) (rest front behind : List ℕ) : Type 0 where
  pub long : length front ≡ count
  pub same : rest ≡ front ++ behind
  pub first : AreBelow (2 ^ 8) front
  pub below : AreBelow (2 ^ 8) behind

field_takes : (count size : ℕ) (rest : List ℕ) (read : List ℕ × List ℕ) → AreBelow (2 ^ 8) rest → field count size rest ≡ Ok read → Fields count rest read.0 read.1
unfolding field
field_takes count size rest read all h = by (nat_lt (length rest) count) refl h
  where
    by : (b : Bool) → nat_lt (length rest) count ≡ b → (if b then Err (offset size rest) else Ok (take count rest, drop count rest)) ≡ Ok read → Fields count rest read.0 read.1
    by true e k = absurd (cc)
    by false e k =
        let t : List ℕ × List ℕ = (take count rest, drop count rest) in
        let p : t ≡ read = cc in
        let enough : count ≤ length rest = grind (arith, nat_tests) in
        let one : take count rest ≡ read.0 = ap (λ x. x.0) p in
        let two : drop count rest ≡ read.1 = ap (λ x. x.1) p in
        let parts : rest ≡ read.0 ++ read.1 = sym (take-append-drop count rest) ∙ ap (λ x. x ++ drop count rest) one ∙ ap (λ x. read.0 ++ x) two in
        let each : AreBelow (2 ^ 8) (read.0 ++ read.1) = subst (AreBelow (2 ^ 8)) parts all in
        record { long = ap length (sym one) ∙ length-take-le count rest enough; same = parts; first = front_below _ read.0 read.1 each; below = rest_below _ read.0 read.1 each }

number_takes : (size : ℕ) (rest : List ℕ) (read : ℕ × List ℕ) → AreBelow (2 ^ 8) rest → number size rest ≡ Ok read → Takes rest (to_le_bytes w32 read.0) read.1
unfolding number
number_takes size rest read all h =
    let w = went (field 4 size rest) (λ r. Ok (from_le_bytes w32 r.0, r.1)) read h in
    let f = field_takes 4 size rest w.value all w.first in
    let t : ℕ × List ℕ = (from_le_bytes w32 w.value.0, w.value.1) in
    let p : t ≡ read = ok_is t read w.second in
    let n : from_le_bytes w32 w.value.0 ≡ read.0 = ap (λ x. x.0) p in
    let behind : w.value.1 ≡ read.1 = ap (λ x. x.1) p in
    let spelled : to_le_bytes w32 read.0 ≡ w.value.0 = le_bytes_4 w.value.0 read.0 f.long (by_place _ w.value.0 f.first (omega arith)) (sym n) in
    record { same = f.same ∙ ap (λ x. x ++ w.value.1) (sym spelled) ∙ ap (λ x. to_le_bytes w32 read.0 ++ x) behind; below = subst (AreBelow (2 ^ 8)) behind f.below }

abbrev Each : List ℕ → Type 0
Each bs = (i : ℕ) → get_or bs i 0 < 256

guid_spelled : BytesBack → (bs : List ℕ) → length bs ≡ 16 → Each bs → bytes_of (guid_of bs) ≡ bs
guid_spelled back bs h all = back bs h (λ k d l. rw (get_or_default bs k d 0 l) (all k))

guid_takes : BytesBack → (size : ℕ) (rest : List ℕ) (read : Guid × List ℕ) → AreBelow (2 ^ 8) rest → guid size rest ≡ Ok read → Takes rest (bytes_of read.0) read.1
unfolding guid
guid_takes back size rest read all h =
    let w = went (field 16 size rest) (λ r. Ok (guid_of r.0, r.1)) read h in
    let f = field_takes 16 size rest w.value all w.first in
    let t : Guid × List ℕ = (guid_of w.value.0, w.value.1) in
    let p : t ≡ read = ok_is t read w.second in
    let g : guid_of w.value.0 ≡ read.0 = ap (λ x. x.0) p in
    let behind : w.value.1 ≡ read.1 = ap (λ x. x.1) p in
    let spelled : bytes_of read.0 ≡ w.value.0 = ap bytes_of (sym g) ∙ guid_spelled back w.value.0 f.long (by_place _ w.value.0 f.first (omega arith)) in
    record { same = f.same ∙ ap (λ x. x ++ w.value.1) (sym spelled) ∙ ap (λ x. bytes_of read.0 ++ x) behind; below = subst (AreBelow (2 ^ 8)) behind f.below }

units_spelled : (n : ℕ) (bytes : List ℕ) → length bytes ≡ 2 * n → AreBelow (2 ^ 8) bytes → unit_bytes (units_in bytes) ≡ bytes
unfolding units_in
units_spelled n [] h all = refl
units_spelled n (low ∷ []) h all = absurd (omega arith)
units_spelled zero (low ∷ high ∷ bytes) h all = absurd (omega arith)
units_spelled (suc n) (low ∷ high ∷ bytes) h all =
    let first = le_bytes_2 (low ∷ high ∷ []) (from_le_bytes w16 (low ∷ high ∷ [])) refl (by_place _ (low ∷ high ∷ []) (all.0, (all.1.0, tt)) (omega arith)) refl in
    let rest = units_spelled n bytes (omega arith) all.1.1 in
    ap (λ x. x ++ unit_bytes (units_in bytes)) first ∙ ap (λ x. low ∷ high ∷ x) rest

-- what stands before a name
record HeadTakes (rest : List ℕ) (h : Header) (behind : List ℕ) : Type 0 where
  pub same : rest ≡ bytes_of h.vendor ++ (to_le_bytes w32 h.attributes ++ (to_le_bytes w32 h.units ++ (to_le_bytes w32 h.size ++ behind)))
  pub below : AreBelow (2 ^ 8) behind
  pub lasts : is_non_volatile h.attributes ≡ true

four_parts : (a b c d e p q r s : List ℕ) → a ≡ p ++ b → b ≡ q ++ c → c ≡ r ++ d → d ≡ s ++ e → a ≡ p ++ (q ++ (r ++ (s ++ e)))
four_parts a b c d e p q r s i j k l = rw (i, j, k, l) refl

head_takes : BytesBack → (size room : ℕ) (rest : List ℕ) (read : Header × List ℕ) → AreBelow (2 ^ 8) rest → head size rest room ≡ Ok read → HeadTakes rest read.0 read.1
unfolding head
head_takes back size room rest read all h =
    let v = went (guid size rest) _ read h in
    let vendor = guid_takes back size rest v.value all v.first in
    let a = went (number size v.value.1) _ read v.second in
    let attributes = number_takes size v.value.1 a.value vendor.below a.first in
    let fits = guarded (fits_attributes a.value.0) _ _ read a.second in
    let u = went (number size a.value.1) _ read fits.1 in
    let units = number_takes size a.value.1 u.value attributes.below u.first in
    let name = guarded (not (is_bad_name u.value.0)) _ _ read u.second in
    let p = went (number size u.value.1) _ read name.1 in
    let bytes = number_takes size u.value.1 p.value units.below p.first in
    let some = guarded (fits_size u.value.0 p.value.0 room) _ _ read p.second in
    let t : Header × List ℕ = (record { vendor = v.value.0; attributes = a.value.0; units = u.value.0; size = p.value.0 }, p.value.1) in
    let made : t ≡ read = ok_is t read some.1 in
    let there : HeadTakes rest t.0 t.1 = record {
      same = four_parts rest v.value.1 a.value.1 u.value.1 p.value.1 (bytes_of v.value.0) (to_le_bytes w32 a.value.0) (to_le_bytes w32 u.value.0) (to_le_bytes w32 p.value.0) vendor.same attributes.same units.same bytes.same;
      below = bytes.below;
      lasts = (and_true _ _ (and_true _ _ fits.0).0).0;
    } in
    subst (λ x. HeadTakes rest x.0 x.1) made there

record EntryTakes (rest : List ℕ) (e : Entry) (behind : List ℕ) : Type 0 where
  pub same : rest ≡ entry_bytes e ++ behind
  pub below : AreBelow (2 ^ 8) behind
  pub lasts : is_non_volatile e.attributes ≡ true

-- the bytes of a variable in front
spelled : (rest : List ℕ) (h : Header) (b c d n p : List ℕ) → rest ≡ bytes_of h.vendor ++ (to_le_bytes w32 h.attributes ++ (to_le_bytes w32 h.units ++ (to_le_bytes w32 h.size ++ b)))
    → b ≡ n ++ c → c ≡ p ++ d → unit_bytes (units_in n) ≡ n → length (units_in n) ≡ h.units → length p ≡ h.size
    → rest ≡ entry_bytes (record { vendor = h.vendor; name = units_in n; attributes = h.attributes; «data» = p }) ++ d
unfolding entry_bytes
spelled rest h b c d n p i j k name count long =
    let parts : rest ≡ bytes_of h.vendor ++ (to_le_bytes w32 h.attributes ++ (to_le_bytes w32 h.units ++ (to_le_bytes w32 h.size ++ (n ++ (p ++ d))))) = rw (i, j, k) refl in
    let group = regroup (bytes_of h.vendor) (to_le_bytes w32 h.attributes) (to_le_bytes w32 (length (units_in n))) (to_le_bytes w32 (length p)) (unit_bytes (units_in n)) p d in
    parts ∙ ap (λ x. bytes_of h.vendor ++ (to_le_bytes w32 h.attributes ++ (to_le_bytes w32 x ++ (to_le_bytes w32 h.size ++ (n ++ (p ++ d)))))) (sym count)
    ∙ ap (λ x. bytes_of h.vendor ++ (to_le_bytes w32 h.attributes ++ (to_le_bytes w32 (length (units_in n)) ++ (to_le_bytes w32 x ++ (n ++ (p ++ d)))))) (sym long)
    ∙ ap (λ x. bytes_of h.vendor ++ (to_le_bytes w32 h.attributes ++ (to_le_bytes w32 (length (units_in n)) ++ (to_le_bytes w32 (length p) ++ (x ++ (p ++ d)))))) (sym name)
    ∙ sym group

entry_takes : BytesBack → (size : ℕ) (before : List Entry) (rest : List ℕ) (read : Entry × List ℕ) → AreBelow (2 ^ 8) rest → entry size rest before ≡ Ok read → EntryTakes rest read.0 read.1
unfolding entry
entry_takes back size before rest read all h =
    let f = went (head size rest (room_of before)) _ read h in
    let first = head_takes back size (room_of before) rest f.value all f.first in
    let n = went (field (2 * f.value.0.units) size f.value.1) _ read f.second in
    let name = field_takes (2 * f.value.0.units) size f.value.1 n.value first.below n.first in
    let new = guarded (not (is_some (place_of before (units_in n.value.0) f.value.0.vendor false))) _ _ read n.second in
    let p = went (field f.value.0.size size n.value.1) _ read new.1 in
    let last = field_takes f.value.0.size size n.value.1 p.value name.below p.first in
    let t : Entry × List ℕ = (record { vendor = f.value.0.vendor; name = units_in n.value.0; attributes = f.value.0.attributes; «data» = p.value.0 }, p.value.1) in
    let made : t ≡ read = ok_is t read p.second in
    let there : EntryTakes rest t.0 t.1 = record {
      same = spelled rest f.value.0 f.value.1 n.value.1 p.value.1 n.value.0 p.value.0 first.same name.same last.same (units_spelled f.value.0.units n.value.0 name.long name.first) (length_units f.value.0.units n.value.0 name.long) last.long;
      below = last.below;
      lasts = first.lasts;
    } in
    subst (λ x. EntryTakes rest x.0 x.1) made there

record EntriesTake (count : ℕ) (rest : List ℕ) (before all : List Entry) : Type 0 where
  pub read : List Entry
  pub whole : all ≡ before ++ read
  pub many : length read ≡ count
  pub same : rest ≡ flat_map entry_bytes read
  pub last : AllKept read

entries_take : BytesBack → (count size : ℕ) (rest : List ℕ) (before all : List Entry) → AreBelow (2 ^ 8) rest → entries count size rest before ≡ Ok all → EntriesTake count rest before all
unfolding entries
entries_take back zero size rest before all fits h = by (length rest == 0) refl h
  where
    by : (b : Bool) → (length rest == 0) ≡ b → (if b then Ok before else Err (offset size rest)) ≡ Ok all → EntriesTake 0 rest before all
    by true e k =
        let same : before ≡ all = cc in
        let none : length rest ≡ 0 = grind (arith, nat_tests) in
        record { read = []; whole = sym same ∙ sym (append-nil before); many = refl; same = empty rest none; last = tt }
      where
        empty : (r : List ℕ) → length r ≡ 0 → r ≡ []
        empty [] h = refl
        empty (x ∷ xs) h = absurd (omega arith)
    by false e k = absurd (cc)
entries_take back (suc count) size rest before all fits h =
    let w = went (entry size rest before) _ all h in
    let e = entry_takes back size before rest w.value fits w.first in
    let r = entries_take back count size w.value.1 (before ++ w.value.0 ∷ []) all e.below w.second in
    let many = r.many in
    record {
      read = w.value.0 ∷ r.read;
      whole = r.whole ∙ append_assoc before (w.value.0 ∷ []) r.read;
      many = omega arith;
      same = e.same ∙ ap (λ x. entry_bytes w.value.0 ++ x) r.same;
      last = (e.lasts, r.last);
    }

kept_is : (entries : List Entry) → AllKept entries → kept entries ≡ entries
kept_is [] all = refl
kept_is (e ∷ es) all = rw (all.0, kept_is es all.1) refl

pub loaded_is_saved : BytesBack → (bytes : List ℕ) (es : List Entry) → AreBelow (2 ^ 8) bytes → store_in bytes ≡ Ok es → bytes ≡ store_of es
unfolding store_in store_of
loaded_is_saved back bytes es fits h =
    let m = went (field 4 (length bytes) bytes) _ es h in
    let magic = field_takes 4 (length bytes) bytes m.value fits m.first in
    let right = guarded (bytes_eq m.value.0 (codes "UVS1")) _ _ es m.second in
    let c = went (number (length bytes) m.value.1) _ es right.1 in
    let count = number_takes (length bytes) m.value.1 c.value magic.below c.first in
    let r = entries_take back c.value.0 (length bytes) c.value.1 [] es count.below c.second in
    let letters : m.value.0 ≡ codes "UVS1" = (bytes_eq-Decides m.value.0 (codes "UVS1")).0 right.0 in
    let read : r.read ≡ es = sym r.whole in
    let all : kept es ≡ es = kept_is es (subst AllKept read r.last) in
    let many : c.value.0 ≡ length (kept es) = sym r.many ∙ ap length read ∙ ap length (sym all) in
    let rest : c.value.1 ≡ flat_map entry_bytes (kept es) = r.same ∙ ap (flat_map entry_bytes) (read ∙ sym all) in
    magic.same ∙ ap (λ x. x ++ m.value.1) letters ∙ ap (λ x. codes "UVS1" ++ x) (count.same ∙ ap (λ x. to_le_bytes w32 x ++ c.value.1) many ∙ ap (λ x. to_le_bytes w32 (length (kept es)) ++ x) rest)
