-- Descriptors of a list, by number.
use Rattle.std.proofs.Common.{◌≡◌, ◌<◌, ◌≤◌, ◌+◌, ◌*◌, ◌%◌, ℕ, zero, suc, Bool, true, false, List, [], ◌∷◌, length, refl, sym, subst, arith, ◌⊎◌, inl, inr, ◌∙◌}
use Rattle.std.specs.Prelude.{◌&&◌, ◌||◌, ◌==◌, not, nat_lt, nat_le, slice_get, find, Some, None, if◌then◌else◌}
use Rattle.std.specs.List.{All, list_any}
use Rattle.std.proofs.lemmas.Option.{get_or_from_slice_get}
use Rattle.std.proofs.lemmas.Bool.Decides.{nat_tests}
use Rattle.memory_map.specs.declared.descriptor.Descriptor.{Descriptor}
use Rattle.memory_map.specs.Map.{Covers, NeighboursDiffer, holds}
use Rattle.map_faults.specs.Rules.{behind}

pub some_same : (d e : Descriptor) → Some d ≡ Some e → d ≡ e
some_same d e h = cc

pub neither : (a b : Bool) → (a || b) ≡ false → (a ≡ false) × (b ≡ false)
neither true b h = absurd cc
neither false b h = (refl, h)

pub both_true : (a b : Bool) → (a && b) ≡ true → (a ≡ true) × (b ≡ true)
both_true true b h = (refl, h)
both_true false b h = absurd cc

pub must_be : (b : Bool) → not b ≡ false → b ≡ true
must_be true h = refl
must_be false h = absurd cc

pub eq_of : (a b : ℕ) → (a == b) ≡ true → a ≡ b
eq_of a b h = grind (arith, nat_tests)

-- ---- what is so of all

below_end : {A : Type 0} (xs : List A) (i : ℕ) (x : A) → slice_get xs i ≡ Some x → i < length xs
below_end [] i x h = absurd cc
below_end (y ∷ ys) zero x h = omega arith
below_end (y ∷ ys) (suc i) x h = let k = below_end ys i x h in omega (arith, k)

pub all_at : {A : Type 0} (P : A → Type 0) (xs : List A) (i : ℕ) (x : A) → All P xs → slice_get xs i ≡ Some x → P x
all_at P xs i x h s = subst P (get_or_from_slice_get xs i x x s) (h i x (below_end xs i x s))

pub none_at : (p : Descriptor → Bool) (ds : List Descriptor) (i : ℕ) (d : Descriptor) → list_any p ds ≡ false → slice_get ds i ≡ Some d → p d ≡ false
none_at p [] i d h s = absurd cc
none_at p (e ∷ es) zero d h s = subst (λ (x : Descriptor). p x ≡ false) (some_same e d s) (neither (p e) (list_any p es) h).0
none_at p (e ∷ es) (suc i) d h s = none_at p es i d (neither (p e) (list_any p es) h).1 s

-- one that passes a test
pub record Found (p : Descriptor → Bool) (ds : List Descriptor) : Type 0 where
  pub at : ℕ
  pub one : Descriptor
  pub here : slice_get ds at ≡ Some one
  pub passes : p one ≡ true

pub some_any : (p : Descriptor → Bool) (ds : List Descriptor) → list_any p ds ≡ true → Found p ds
some_any p [] h = absurd cc
some_any p (d ∷ ds) h = by (some_any p ds) (p d) refl h
  where
    by : (list_any p ds ≡ true → Found p ds) → (b : Bool) → p d ≡ b → (b || list_any p ds) ≡ true → Found p (d ∷ ds)
    by rest true e k = record { at = 0; one = d; here = refl; passes = e }
    by rest false e k = let f = rest k in record { at = suc f.at; one = f.one; here = f.here; passes = f.passes }

-- the first that passes a test is one
pub record IsFound {A : Type 0} (p : A → Bool) (xs : List A) (x : A) : Type 0 where
  pub at : ℕ
  pub here : slice_get xs at ≡ Some x
  pub passes : p x ≡ true

pub found_at : {A : Type 0} (p : A → Bool) (xs : List A) (x : A) → find p xs ≡ Some x → IsFound p xs x
found_at p [] x h = absurd cc
found_at {A} p (y ∷ ys) x h = by (found_at p ys x) (p y) refl h
  where
    by : (find p ys ≡ Some x → IsFound p ys x) → (b : Bool) → p y ≡ b → (if b then Some y else find p ys) ≡ Some x → IsFound p (y ∷ ys) x
    by rest true f k = let same : y ≡ x = cc in record { at = 0; here = k; passes = subst (λ (z : A). p z ≡ true) same f }
    by rest false f k = let l = rest k in record { at = suc l.at; here = l.here; passes = l.passes }

pub missed : (p : Descriptor → Bool) (ds : List Descriptor) (i : ℕ) (d : Descriptor) → find p ds ≡ None → slice_get ds i ≡ Some d → p d ≡ true → ⊥
missed p [] i d h s t = cc
missed p (e ∷ es) i d h s t = by (λ j k u. missed p es j d k u t) (p e) refl h i s
  where
    by : ((j : ℕ) → find p es ≡ None → slice_get es j ≡ Some d → ⊥) → (b : Bool) → p e ≡ b → (if b then Some e else find p es) ≡ None → (j : ℕ) → slice_get (e ∷ es) j ≡ Some d → ⊥
    by rest true f k j u = absurd cc
    by rest false f k zero u = let bad : p d ≡ false = subst (λ (x : Descriptor). p x ≡ false) (some_same e d u) f in cc
    by rest false f k (suc j) u = rest j k u

-- two tests that pass the same of them find the same
pub same_found : (p q : Descriptor → Bool) (ds : List Descriptor) → ((i : ℕ) (d : Descriptor) → slice_get ds i ≡ Some d → p d ≡ q d) → find p ds ≡ find q ds
same_found p q [] h = refl
same_found p q (d ∷ ds) h =
    let here : p d ≡ q d = h 0 d refl in
    let rest = same_found p q ds (λ i e s. h (suc i) e s) in
    rw (here, rest) refl

-- ---- descriptors that cover a range

pub record IsWithin (from to : ℕ) (d : Descriptor) : Type 0 where
  pub low : from ≤ d.start
  pub high : behind d.start d.pages ≤ to
  pub some : 0 < d.pages

ends_early : (from to : ℕ) (ds : List Descriptor) → Covers from to ds → from ≤ to
ends_early from to [] h = omega (arith, h)
ends_early from to (d ∷ ds) h = let r = ends_early (from + 4096 * d.pages) to ds h.2 in omega (arith, r)

pub within : (from to : ℕ) (ds : List Descriptor) (i : ℕ) (d : Descriptor) → Covers from to ds → slice_get ds i ≡ Some d → IsWithin from to d
within from to [] i d c s = absurd cc
within from to (e ∷ es) zero d c s =
    let start = c.0 in
    let ends = ends_early (from + 4096 * e.pages) to es c.2 in
    subst (λ (x : Descriptor). IsWithin from to x) (some_same e d s) (record { low = omega (arith, start); high = omega (arith, start, ends); some = c.1 })
within from to (e ∷ es) (suc i) d c s =
    let r = within (from + 4096 * e.pages) to es i d c.2 s in
    let low = r.low in
    record { low = omega (arith, low); high = r.high; some = r.some }

-- each begins at a page
pub on_page : (from to : ℕ) (ds : List Descriptor) (i : ℕ) (d : Descriptor) → Covers from to ds → from % 4096 ≡ 0 → slice_get ds i ≡ Some d → d.start % 4096 ≡ 0
on_page from to [] i d c a s = absurd cc
on_page from to (e ∷ es) zero d c a s = let start = c.0 in subst (λ (x : Descriptor). x.start % 4096 ≡ 0) (some_same e d s) (omega (arith, start, a))
on_page from to (e ∷ es) (suc i) d c a s = on_page (from + 4096 * e.pages) to es i d c.2 (omega (arith, a)) s

abbrev pub OneOrApart : Descriptor → Descriptor → Type 0
OneOrApart a b = (a ≡ b) ⊎ ((behind a.start a.pages ≤ b.start) ⊎ (behind b.start b.pages ≤ a.start))

first_apart : (from to : ℕ) (e : Descriptor) (es : List Descriptor) (j : ℕ) (a b : Descriptor) → Covers from to (e ∷ es) → e ≡ a → slice_get es j ≡ Some b → behind a.start a.pages ≤ b.start
first_apart from to e es j a b c s t =
    let r = (within (from + 4096 * e.pages) to es j b c.2 t).low in
    let start = c.0 in
    let l : behind e.start e.pages ≤ b.start = omega (arith, r, start) in
    subst (λ (x : Descriptor). behind x.start x.pages ≤ b.start) s l

pub one_or_apart : (from to : ℕ) (ds : List Descriptor) (i j : ℕ) (a b : Descriptor) → Covers from to ds → slice_get ds i ≡ Some a → slice_get ds j ≡ Some b → OneOrApart a b
one_or_apart from to [] i j a b c s t = absurd cc
one_or_apart from to (e ∷ es) zero zero a b c s t = inl (sym (some_same e a s) ∙ some_same e b t)
one_or_apart from to (e ∷ es) zero (suc j) a b c s t = inr (inl (first_apart from to e es j a b c (some_same e a s) t))
one_or_apart from to (e ∷ es) (suc i) zero a b c s t = inr (inr (first_apart from to e es i b a c (some_same e b t) s))
one_or_apart from to (e ∷ es) (suc i) (suc j) a b c s t = one_or_apart (from + 4096 * e.pages) to es i j a b c.2 s t

-- ---- which holds an address

pub held_low : (at : ℕ) (e : Descriptor) → holds at e ≡ true → e.start ≤ at
held_low at e h = grind (arith, nat_tests)

pub held_high : (at : ℕ) (e : Descriptor) → holds at e ≡ true → at < behind e.start e.pages
held_high at e h = grind (arith, nat_tests)

pub is_held : (at : ℕ) (e : Descriptor) → e.start ≤ at → at < behind e.start e.pages → holds at e ≡ true
is_held at e low high = grind (arith, nat_tests)

free_first : (at : ℕ) (e d : Descriptor) (from : ℕ) → e.start ≡ from → from + 4096 * e.pages ≤ d.start → holds at d ≡ true → holds at e ≡ false
free_first at e d from s l h = grind (arith, nat_tests)

-- the one that holds an address is the first that does
pub holder_is : (at from to : ℕ) (ds : List Descriptor) (i : ℕ) (d : Descriptor) → Covers from to ds → slice_get ds i ≡ Some d → holds at d ≡ true → find (holds at) ds ≡ Some d
holder_is at from to [] i d c s h = absurd cc
holder_is at from to (e ∷ es) zero d c s h =
    let same = some_same e d s in
    let held : holds at e ≡ true = subst (λ (x : Descriptor). holds at x ≡ true) (sym same) h in
    rw held s
holder_is at from to (e ∷ es) (suc i) d c s h =
    let free : holds at e ≡ false = free_first at e d from c.0 (within (from + 4096 * e.pages) to es i d c.2 s).low h in
    rw free (holder_is at (from + 4096 * e.pages) to es i d c.2 s h)

-- ---- pages of one type

-- neighbours of one type are one descriptor
pub record HoldsAll (ds : List Descriptor) (from to : ℕ) : Type 0 where
  pub at : ℕ
  pub one : Descriptor
  pub here : slice_get ds at ≡ Some one
  pub low : one.start ≤ from
  pub high : to ≤ behind one.start one.pages

-- all descriptors that hold an address between two have a memory type
abbrev pub AreTyped : List Descriptor → (from to memory_type : ℕ) → Type 0
AreTyped ds from to memory_type = (i : ℕ) (d : Descriptor) (x : ℕ) → slice_get ds i ≡ Some d → from ≤ x → x < to → d.start ≤ x → x < behind d.start d.pages → d.memory_type ≡ memory_type

pub one_holds : (ds : List Descriptor) (first last from to memory_type : ℕ) → Covers first last ds → NeighboursDiffer ds → first ≤ from → from < to → to ≤ last → AreTyped ds from to memory_type → HoldsAll ds from to
one_holds [] first last from to memory_type c n low some high t = absurd (omega (arith, c, low, some, high))
one_holds (d ∷ ds) first last from to memory_type c n low some high t =
    by (λ l. one_holds ds (first + 4096 * d.pages) last from to memory_type c.2 (rest_differ ds n) l some high (λ i e x s. t (suc i) e x s)) (nat_lt from (behind d.start d.pages)) refl (nat_le to (behind d.start d.pages)) refl
  where
    rest_differ : (es : List Descriptor) → NeighboursDiffer (d ∷ es) → NeighboursDiffer es
    rest_differ es m = m.1

    start : d.start ≡ first
    start = c.0

    over : (es : List Descriptor) → Covers (first + 4096 * d.pages) last es → NeighboursDiffer (d ∷ es) → AreTyped (d ∷ es) from to memory_type → from < behind d.start d.pages → behind d.start d.pages < to → ⊥
    over [] k m u l h = let s = start in absurd (omega (arith, k, s, high, h))
    over (e ∷ es) k m u l h =
        let s = start in
        let begins = k.0 in
        let more = k.1 in
        let one = u 0 d from refl (omega arith) some (omega (arith, s, low)) l in
        let two = u 1 e (behind d.start d.pages) refl (omega (arith, l)) h (omega (arith, begins, s)) (omega (arith, begins, s, more)) in
        absurd (m.0 (one ∙ sym two))

    by : (first + 4096 * d.pages ≤ from → HoldsAll ds from to) → (a : Bool) → nat_lt from (behind d.start d.pages) ≡ a → (b : Bool) → nat_le to (behind d.start d.pages) ≡ b → HoldsAll (d ∷ ds) from to
    by rest false e b f =
        let s = start in
        let l : behind d.start d.pages ≤ from = grind (arith, nat_tests) in
        let h = rest (omega (arith, l, s)) in
        record { at = suc h.at; one = h.one; here = h.here; low = h.low; high = h.high }
    by rest true e true f = let s = start in record { at = 0; one = d; here = refl; low = omega (arith, s, low); high = grind (arith, nat_tests) }
    by rest true e false f = absurd (over ds c.2 n t (grind (arith, nat_tests)) (grind (arith, nat_tests)))
