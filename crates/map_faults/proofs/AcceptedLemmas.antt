-- What follows where a map has no fault.
use Rattle.std.proofs.Common.{◌≡◌, ◌<◌, ◌≤◌, ◌+◌, ◌-◌, ◌/◌, ◌%◌, ℕ, zero, suc, Bool, true, false, List, [], ◌∷◌, ◌++◌, length, take, refl, sym, subst, arith, append_assoc, append-nil, ◌⊎◌, inl, inr}
use Rattle.std.specs.Prelude.{◌^◌, ◌==◌, ◌&&◌, ◌||◌, not, nat_lt, nat_le, slice_get, Option, Some, None, Result, Ok, if◌then◌else◌}
use Rattle.std.specs.List.{list_any, find}
use Rattle.std.proofs.lemmas.Bool.Decides.{nat_tests}
use Rattle.memory_map.specs.declared.descriptor.Descriptor.{Descriptor}
use Rattle.memory_map.specs.Map.{holds}
use Rattle.map_faults.specs.declared.fault.MapFault.{MapFault}
use Rattle.map_faults.specs.Grounds.{Ground, Call}
use Rattle.map_faults.specs.Rules.{is_runtime, is_known, is_twice, is_unaligned, is_out, behind, meet, overlaps}
use Rattle.map_faults.specs.Faults.{or_next, is_size, call_fault, entry_fault, fault_of, entries_fault, first_fault, entry_at}
use Rattle.map_faults.specs.Pointers.{converted, converted_by}
use Rattle.map_faults.specs.declared.pointer.ConvertRefusal.{ConvertRefusal}
use Rattle.map_faults.specs.Laws.{EntriesArePlaced, RangesAreApart, KeepsOffset, OffsetsStay}

-- ---- no fault

both : (a b : Option MapFault) → or_next a b ≡ None → (a ≡ None) × (b ≡ None)
both None b h = (refl, h)
both (Some fault) b h = let bad : ⊥ = cc in absurd bad

unless : (b : Bool) (fault : MapFault) (rest : Option MapFault) → (if b then Some fault else rest) ≡ None → (b ≡ false) × (rest ≡ None)
unless true fault rest h = let bad : ⊥ = cc in absurd bad
unless false fault rest h = (refl, h)

record Passes (g : Ground) (earlier : List Descriptor) (e : Descriptor) : Type 0 where
  known : not (is_known g.descriptors e) ≡ false
  aligned : is_unaligned e.virt ≡ false
  inside : is_out e.virt e.pages ≡ false
  apart : overlaps earlier e.virt e.pages ≡ false

passes : (g : Ground) (earlier : List Descriptor) (i : ℕ) (e : Descriptor) → entry_fault g earlier i e ≡ None → Passes g earlier e
unfolding entry_fault
passes g earlier i e h =
    let a = unless (not (is_known g.descriptors e)) _ _ h in
    let b = unless (is_twice earlier e) _ _ (a.1) in
    let c = unless (is_unaligned e.virt) _ _ (b.1) in
    let d = unless (is_out e.virt e.pages) _ _ (c.1) in
    let o = unless (overlaps earlier e.virt e.pages) _ _ (d.1) in
    record { known = a.0; aligned = c.0; inside = d.0; apart = o.0 }

some_same : (d e : Descriptor) → Some d ≡ Some e → d ≡ e
some_same d e h = cc

when : (b : Bool) (x : Option MapFault) → b ≡ true → (if b then x else None) ≡ None → x ≡ None
when true x r h = h
when false x r h = let bad : ⊥ = cc in absurd bad

at_first : (g : Ground) (earlier : List Descriptor) (d e : Descriptor) → fault_of g earlier (length earlier) d ≡ None → d ≡ e → is_runtime e ≡ true → Passes g (earlier ++ []) e
at_first g earlier d e h same r =
    let here : fault_of g earlier (length earlier) e ≡ None = subst (λ (x : Descriptor). fault_of g earlier (length earlier) x ≡ None) same h in
    subst (λ (xs : List Descriptor). Passes g xs e) (sym (append-nil earlier)) (passes g earlier (length earlier) e (when (is_runtime e) _ r here))

at_entry : (g : Ground) (earlier es : List Descriptor) (i : ℕ) (e : Descriptor) → entries_fault g earlier es ≡ None → slice_get es i ≡ Some e → is_runtime e ≡ true → Passes g (earlier ++ take i es) e
unfolding entries_fault
at_entry g earlier [] i e h s r = let bad : ⊥ = cc in absurd bad
at_entry g earlier (d ∷ ds) zero e h s r = at_first g earlier d e (both _ _ h).0 (some_same d e s) r
at_entry g earlier (d ∷ ds) (suc i) e h s r =
    subst (λ (xs : List Descriptor). Passes g xs e) (append_assoc earlier (d ∷ []) (take i ds)) (at_entry g (earlier ++ d ∷ []) ds i e (both _ _ h).1 s r)

accepted : (g : Ground) (call : Call) (i : ℕ) (e : Descriptor) → first_fault g call ≡ None → slice_get call.entries i ≡ Some e → is_runtime e ≡ true → Passes g (take i call.entries) e
unfolding first_fault
accepted g call i e h s r = at_entry g [] call.entries i e (both _ _ (both _ _ h).1).0 s r

-- ---- numbers

must_be : (b : Bool) → not b ≡ false → b ≡ true
must_be true h = refl
must_be false h = let bad : ⊥ = cc in absurd bad

even : (virt : ℕ) → is_unaligned virt ≡ false → virt % 4096 ≡ 0
even virt h = grind (arith, nat_tests)

low_end : (virt pages : ℕ) → is_out virt pages ≡ false → 4096 ≤ virt
low_end virt pages h = grind (arith, nat_tests)

high_end : (virt pages : ℕ) → is_out virt pages ≡ false → behind virt pages ≤ 2 ^ 64 - 4096
high_end virt pages h = grind (arith, nat_tests)

pub placed : EntriesArePlaced
placed g call i e h s r =
    let p = accepted g call i e h s r in
    record {
      named = must_be (is_known g.descriptors e) p.known;
      aligned = even e.virt p.aligned;
      low = low_end e.virt e.pages p.inside;
      high = high_end e.virt e.pages p.inside;
    }

-- ---- ranges

neither : (a b : Bool) → (a || b) ≡ false → (a ≡ false) × (b ≡ false)
neither true b h = let bad : ⊥ = cc in absurd bad
neither false b h = (refl, h)

none_passes : (p : Descriptor → Bool) (xs : List Descriptor) (i j : ℕ) (x : Descriptor) → list_any p (take j xs) ≡ false → i < j → slice_get xs i ≡ Some x → p x ≡ false
none_passes p [] i j x h l s = let bad : ⊥ = cc in absurd bad
none_passes p (y ∷ ys) i zero x h l s = absurd (omega arith)
none_passes p (y ∷ ys) zero (suc j) x h l s = subst (λ (k : Descriptor). p k ≡ false) (some_same y x s) (neither (p y) _ h).0
none_passes p (y ∷ ys) (suc i) (suc j) x h l s = none_passes p ys i j x (neither (p y) _ h).1 (omega arith) s

second : (a b : Bool) → a ≡ true → (a && b) ≡ false → b ≡ false
second true b t h = h
second false b t h = let bad : ⊥ = cc in absurd bad

above : (a b : ℕ) → nat_lt a b ≡ false → b ≤ a
above a b h = grind (arith, nat_tests)

parted : (x y : Bool) (A B : Type 0) → (x && y) ≡ false → (x ≡ false → A) → (y ≡ false → B) → A ⊎ B
parted true y A B h f k = inr (k h)
parted false y A B h f k = inl (f refl)

apart_by : (a m b n : ℕ) → meet a m b n ≡ false → (behind b n ≤ a) ⊎ (behind a m ≤ b)
apart_by a m b n h = parted (nat_lt a (behind b n)) (nat_lt b (behind a m)) (behind b n ≤ a) (behind a m ≤ b) h (above a (behind b n)) (above b (behind a m))

turned : {A B : Type 0} → A ⊎ B → B ⊎ A
turned (inl a) = inr a
turned (inr b) = inl b

pub apart : RangesAreApart
unfolding overlaps
apart g call i j e f h l s t r q =
    let p = accepted g call j f h t q in
    let off : (is_runtime e && meet e.virt e.pages f.virt f.pages) ≡ false = none_passes (λ (d : Descriptor). is_runtime d && meet d.virt d.pages f.virt f.pages) call.entries i j e p.apart l s in
    turned (apart_by e.virt e.pages f.virt f.pages (second (is_runtime e) _ r off))

-- ---- pointers

one_found : (p : Descriptor → Bool) (y : Descriptor) (ys : List Descriptor) (x : Descriptor) (b : Bool) → p y ≡ b → (if b then Some y else find p ys) ≡ Some x → (find p ys ≡ Some x → p x ≡ true) → p x ≡ true
one_found p y ys x true e k rest = subst (λ (z : Descriptor). p z ≡ true) (some_same y x k) e
one_found p y ys x false e k rest = rest k

found : (p : Descriptor → Bool) (xs : List Descriptor) (x : Descriptor) → find p xs ≡ Some x → p x ≡ true
found p [] x h = let bad : ⊥ = cc in absurd bad
found p (y ∷ ys) x h = one_found p y ys x (p y) refl h (found p ys x)

second_true : (a b : Bool) → (a && b) ≡ true → b ≡ true
second_true true b h = h
second_true false b h = let bad : ⊥ = cc in absurd bad

held_low : (at : ℕ) (e : Descriptor) → holds at e ≡ true → e.start ≤ at
held_low at e h = grind (arith, nat_tests)

held_high : (at : ℕ) (e : Descriptor) → holds at e ≡ true → at < behind e.start e.pages
held_high at e h = grind (arith, nat_tests)

kept_by : (entries : List Descriptor) (at new : ℕ) (o : Option Descriptor) → entry_at entries at ≡ o → converted_by at o ≡ Ok new → KeepsOffset entries at new
kept_by entries at new None e h = let bad : ⊥ = cc in absurd bad
kept_by entries at new (Some entry) e h =
    let test : holds at entry ≡ true = second_true (is_runtime entry) _ (found (λ (d : Descriptor). is_runtime d && holds at d) entries entry e) in
    let value : entry.virt + (at - entry.start) ≡ new = cc in
    record { entry = entry; held = e; offset = sym value; low = held_low at entry test; high = held_high at entry test }

not_zero : (at : ℕ) → 0 < at → (at == 0) ≡ false
not_zero at l = grind (arith, nat_tests)

otherwise : (b : Bool) (x y : Result ℕ ConvertRefusal) (z : Result ℕ ConvertRefusal) → b ≡ false → (if b then x else y) ≡ z → y ≡ z
otherwise true x y z e h = let bad : ⊥ = cc in absurd bad
otherwise false x y z e h = h

pub offsets : OffsetsStay
unfolding converted
offsets entries flags at new l h = kept_by entries at new (entry_at entries at) refl (otherwise (at == 0) _ _ (Ok new) (not_zero at l) h)

first_true : (a b : Bool) → (a && b) ≡ true → a ≡ true
first_true true b h = refl
first_true false b h = let bad : ⊥ = cc in absurd bad

one_index : (p : Descriptor → Bool) (y : Descriptor) (ys : List Descriptor) (x : Descriptor) (b : Bool) → (if b then Some y else find p ys) ≡ Some x → (find p ys ≡ Some x → (i : ℕ) × (slice_get ys i ≡ Some x))
    → (i : ℕ) × (slice_get (y ∷ ys) i ≡ Some x)
one_index p y ys x true k rest = (0, k)
one_index p y ys x false k rest = let later = rest k in (suc later.0, later.1)

-- the number of an entry that is found
find_index : (p : Descriptor → Bool) (xs : List Descriptor) (x : Descriptor) → find p xs ≡ Some x → (i : ℕ) × (slice_get xs i ≡ Some x)
find_index p [] x h = let bad : ⊥ = cc in absurd bad
find_index p (y ∷ ys) x h = one_index p y ys x (p y) h (find_index p ys x)

-- an entry that holds an address doesn't leave the address space with it
pub goes_inside : (g : Ground) (call : Call) (at : ℕ) (entry : Descriptor) → first_fault g call ≡ None → entry_at call.entries at ≡ Some entry → entry.virt + (at - entry.start) < 2 ^ 64
goes_inside g call at entry h e =
    let test = found (λ (d : Descriptor). is_runtime d && holds at d) call.entries entry e in
    let index = find_index (λ (d : Descriptor). is_runtime d && holds at d) call.entries entry e in
    let p = accepted g call index.0 entry h index.1 (first_true (is_runtime entry) _ test) in
    let held : holds at entry ≡ true = second_true (is_runtime entry) _ test in
    let low = held_low at entry held in
    let high = held_high at entry held in
    let end = high_end entry.virt entry.pages p.inside in
    omega (arith, low, high, end)

pub holds_low : (entries : List Descriptor) (at : ℕ) (entry : Descriptor) → entry_at entries at ≡ Some entry → entry.start ≤ at
holds_low entries at entry e = held_low at entry (second_true (is_runtime entry) _ (found (λ (d : Descriptor). is_runtime d && holds at d) entries entry e))

-- ---- the call

low_enough : (n most : ℕ) → nat_le n most ≡ true → n ≤ most
low_enough n most h = grind (arith, nat_tests)

pub few_entries : (g : Ground) (call : Call) → (call_fault g call ≡ None → length call.entries ≡ call.map_size / 40) → None ≡ call_fault g call → length call.entries ≤ 1024
unfolding call_fault
few_entries g call items e =
    let a = unless (not g.gone) _ _ (sym e) in
    let b = unless g.mapped _ _ (a.1) in
    let c = unless (not (call.descriptor_size == 40)) _ _ (b.1) in
    let d = unless (not (call.version == 1)) _ _ (c.1) in
    let s = unless (not (is_size call.map_size)) _ _ (d.1) in
    let few = low_enough (call.map_size / 40) 1024 (second_true (call.map_size % 40 == 0) _ (must_be (is_size call.map_size) s.0)) in
    let same = items (sym e) in
    omega (arith, few, same)
