-- What follows where a map has no fault.
use Rattle.std.proofs.Common.{◌≡◌, ◌<◌, ◌≤◌, ◌+◌, ◌-◌, ◌*◌, ◌/◌, ◌%◌, ℕ, zero, suc, Bool, true, false, List, [], ◌∷◌, ◌++◌, length, refl, sym, subst, arith, ◌⊎◌, inl, inr, ◌∙◌, ap}
use Rattle.std.specs.Prelude.{◌^◌, ◌==◌, ◌&&◌, ◌||◌, not, nat_lt, nat_le, max, min, slice_get, Option, Some, None, if◌then◌else◌}
use Rattle.std.specs.List.{list_any, find}
use Rattle.std.proofs.lemmas.Bool.Decides.{nat_tests}
use Rattle.base_reloc.specs.Moved.{sum}
use Rattle.page_alloc.specs.declared.layout.Layout.{Layout}
use Rattle.memory_map.specs.declared.descriptor.Descriptor.{Descriptor}
use Rattle.memory_map.specs.Map.{Covers, holds}
use Rattle.map_faults.specs.declared.fault.MapFault.{MapFault}
use Rattle.map_faults.specs.Grounds.{Ground, Call, window_pages, IsGround}
use Rattle.map_faults.specs.Rules.{is_runtime, is_named_by, is_known, is_twice, is_unaligned, is_out, behind, meet, overlaps, shadows, sticks_out}
use Rattle.map_faults.specs.Faults.{or_next, call_fault, entry_fault, fault_of, entries_fault, window_fault, unmapped_fault, reloc_fault, first_fault, entry_at, is_mapped, displacement_by}
use Rattle.map_faults.specs.Laws.{EntriesArePlaced, RangesAreApart, IsPlaced}
use Rattle.runtime_view.specs.Views.{virtual_of}
use Rattle.runtime_view.proofs.Members.{In, Found, OneOrApart, at_each, none_any, some_any, one_or_apart, starts_late}

both : (a b : Option MapFault) → or_next a b ≡ None → (a ≡ None) × (b ≡ None)
both None b h = (refl, h)
both (Some fault) b h = let bad : ⊥ = cc in absurd bad

unless : (b : Bool) (fault : MapFault) (rest : Option MapFault) → (if b then Some fault else rest) ≡ None → (b ≡ false) × (rest ≡ None)
unless true fault rest h = let bad : ⊥ = cc in absurd bad
unless false fault rest h = (refl, h)

when : (b : Bool) (x : Option MapFault) → b ≡ true → (if b then x else None) ≡ None → x ≡ None
when true x r h = h
when false x r h = let bad : ⊥ = cc in absurd bad

some_same : (d e : Descriptor) → Some d ≡ Some e → d ≡ e
some_same d e h = cc

neither : (a b : Bool) → (a || b) ≡ false → (a ≡ false) × (b ≡ false)
neither true b h = let bad : ⊥ = cc in absurd bad
neither false b h = (refl, h)

pub both_true : (a b : Bool) → (a && b) ≡ true → (a ≡ true) × (b ≡ true)
both_true true b h = (refl, h)
both_true false b h = let bad : ⊥ = cc in absurd bad

pub second : (a b : Bool) → a ≡ true → (a && b) ≡ false → b ≡ false
second true b t h = h
second false b t h = let bad : ⊥ = cc in absurd bad

must_be : (b : Bool) → not b ≡ false → b ≡ true
must_be true h = refl
must_be false h = let bad : ⊥ = cc in absurd bad

-- ---- an entry's range meets no RAM that stays

entry_shadow : (g : Ground) (earlier : List Descriptor) (i : ℕ) (e : Descriptor) → entry_fault g earlier i e ≡ None → shadows g.layout g.descriptors e.virt e.pages ≡ false
unfolding entry_fault
entry_shadow g earlier i e h =
    let a = unless (not (is_known g.descriptors e)) _ _ h in
    let b = unless (is_twice earlier e) _ _ (a.1) in
    let c = unless (is_unaligned e.virt) _ _ (b.1) in
    let d = unless (is_out e.virt e.pages) _ _ (c.1) in
    let o = unless (overlaps earlier e.virt e.pages) _ _ (d.1) in
    (unless (shadows g.layout g.descriptors e.virt e.pages) _ _ (o.1)).0

at_first : (g : Ground) (earlier : List Descriptor) (d e : Descriptor) → fault_of g earlier (length earlier) d ≡ None → d ≡ e → is_runtime e ≡ true → shadows g.layout g.descriptors e.virt e.pages ≡ false
at_first g earlier d e h same r =
    let here : fault_of g earlier (length earlier) e ≡ None = subst (λ (x : Descriptor). fault_of g earlier (length earlier) x ≡ None) same h in
    entry_shadow g earlier (length earlier) e (when (is_runtime e) _ r here)

at_entry : (g : Ground) (earlier es : List Descriptor) (i : ℕ) (e : Descriptor) → entries_fault g earlier es ≡ None → slice_get es i ≡ Some e → is_runtime e ≡ true → shadows g.layout g.descriptors e.virt e.pages ≡ false
unfolding entries_fault
at_entry g earlier [] i e h s r = let bad : ⊥ = cc in absurd bad
at_entry g earlier (d ∷ ds) zero e h s r = at_first g earlier d e (both _ _ h).0 (some_same d e s) r
at_entry g earlier (d ∷ ds) (suc i) e h s r = at_entry g (earlier ++ d ∷ []) ds i e (both _ _ h).1 s r

pub entry_clear : (g : Ground) (call : Call) (i : ℕ) (e : Descriptor) → first_fault g call ≡ None → slice_get call.entries i ≡ Some e → is_runtime e ≡ true → shadows g.layout g.descriptors e.virt e.pages ≡ false
unfolding first_fault
entry_clear g call i e h s r = at_entry g [] call.entries i e (both _ _ (both _ _ h).1).0 s r

-- ---- the operating system's window

pub record WindowFits (g : Ground) (call : Call) : Type 0 where
  pub inside : is_out g.os_virtual window_pages ≡ false
  pub apart : overlaps call.entries g.os_virtual window_pages ≡ false
  pub clear : shadows g.layout g.descriptors g.os_virtual window_pages ≡ false

no_fault : (b : Bool) (fault : MapFault) → (if b then Some fault else None) ≡ None → b ≡ false
no_fault true fault h = let bad : ⊥ = cc in absurd bad
no_fault false fault h = refl

window_of : (g : Ground) (call : Call) → window_fault g call.entries ≡ None → WindowFits g call
unfolding window_fault
window_of g call h =
    let all = no_fault (is_unaligned g.os_virtual || (is_out g.os_virtual window_pages || (overlaps call.entries g.os_virtual window_pages || shadows g.layout g.descriptors g.os_virtual window_pages))) _ h in
    let a = neither (is_unaligned g.os_virtual) (is_out g.os_virtual window_pages || (overlaps call.entries g.os_virtual window_pages || shadows g.layout g.descriptors g.os_virtual window_pages)) all in
    let b = neither (is_out g.os_virtual window_pages) (overlaps call.entries g.os_virtual window_pages || shadows g.layout g.descriptors g.os_virtual window_pages) a.1 in
    let c = neither (overlaps call.entries g.os_virtual window_pages) (shadows g.layout g.descriptors g.os_virtual window_pages) b.1 in
    record { inside = b.0; apart = c.0; clear = c.1 }

pub window_fits : (g : Ground) (call : Call) → first_fault g call ≡ None → WindowFits g call
unfolding first_fault
window_fits g call h = window_of g call (both _ _ (both _ _ (both _ _ h).1).1).0

-- ---- each runtime descriptor has an entry

one_mapped : (entries : List Descriptor) (d : Descriptor) (n : ℕ) (rest : Option MapFault) (b : Bool) → is_mapped entries d ≡ b → is_runtime d ≡ true → (fault : MapFault)
    → (if is_runtime d && not (is_mapped entries d) then Some fault else rest) ≡ None → is_mapped entries d ≡ true
one_mapped entries d n rest true e r fault h = e
one_mapped entries d n rest false e r fault h = let bad : ⊥ = cc in absurd bad

rest_of : (b : Bool) (fault : MapFault) (rest : Option MapFault) → (if b then Some fault else rest) ≡ None → rest ≡ None
rest_of true fault rest h = let bad : ⊥ = cc in absurd bad
rest_of false fault rest h = h

mapped_all : (entries : List Descriptor) (n : ℕ) (ds : List Descriptor) (i : ℕ) (d : Descriptor) → unmapped_fault entries n ds ≡ None → slice_get ds i ≡ Some d → is_runtime d ≡ true → is_mapped entries d ≡ true
unfolding unmapped_fault
mapped_all entries n [] i d h s r = let bad : ⊥ = cc in absurd bad
mapped_all entries n (e ∷ es) zero d h s r =
    let same = some_same e d s in
    subst (λ (x : Descriptor). is_mapped entries x ≡ true) same (one_mapped entries e n (unmapped_fault entries (n + 1) es) (is_mapped entries e) refl (subst (λ (x : Descriptor). is_runtime x ≡ true) (sym same) r) _ h)
mapped_all entries n (e ∷ es) (suc i) d h s r = mapped_all entries (n + 1) es i d (rest_of (is_runtime e && not (is_mapped entries e)) _ _ h) s r

pub mapped_at : (g : Ground) (call : Call) (i : ℕ) (d : Descriptor) → first_fault g call ≡ None → slice_get g.descriptors i ≡ Some d → is_runtime d ≡ true → is_mapped call.entries d ≡ true
unfolding first_fault
mapped_at g call i d h s r =
    let a = both (call_fault g call) (or_next (entries_fault g [] call.entries) (or_next (window_fault g call.entries) (or_next (unmapped_fault call.entries 0 g.descriptors) (reloc_fault call.entries 0 g.kept)))) h in
    let b = both (entries_fault g [] call.entries) (or_next (window_fault g call.entries) (or_next (unmapped_fault call.entries 0 g.descriptors) (reloc_fault call.entries 0 g.kept))) a.1 in
    let c = both (window_fault g call.entries) (or_next (unmapped_fault call.entries 0 g.descriptors) (reloc_fault call.entries 0 g.kept)) b.1 in
    mapped_all call.entries 0 g.descriptors i d (both (unmapped_fault call.entries 0 g.descriptors) (reloc_fault call.entries 0 g.kept) c.1).0 s r

-- ---- the entry that a runtime descriptor has

pub record Entry (g : Ground) (entries : List Descriptor) (d : Descriptor) : Type 0 where
  pub at : ℕ
  pub one : Descriptor
  pub here : slice_get entries at ≡ Some one
  pub runtime : is_runtime one ≡ true
  pub start : one.start ≡ d.start
  pub pages : one.pages ≡ d.pages
  pub found : entry_at entries d.start ≡ Some one

one_found : (p : Descriptor → Bool) (y : Descriptor) (ys : List Descriptor) (x : Descriptor) (b : Bool) → p y ≡ b → (if b then Some y else find p ys) ≡ Some x
    → (find p ys ≡ Some x → (i : ℕ) × (slice_get ys i ≡ Some x) × (p x ≡ true)) → (i : ℕ) × (slice_get (y ∷ ys) i ≡ Some x) × (p x ≡ true)
one_found p y ys x true e k rest = (0, k, subst (λ (z : Descriptor). p z ≡ true) (some_same y x k) e)
one_found p y ys x false e k rest = let l = rest k in (suc l.0, l.1, l.2)

find_index : (p : Descriptor → Bool) (xs : List Descriptor) (x : Descriptor) → find p xs ≡ Some x → (i : ℕ) × (slice_get xs i ≡ Some x) × (p x ≡ true)
find_index p [] x h = let bad : ⊥ = cc in absurd bad
find_index p (y ∷ ys) x h = one_found p y ys x (p y) refl h (find_index p ys x)

missed_by : (p : Descriptor → Bool) (y : Descriptor) (ys : List Descriptor) (x : Descriptor) (b : Bool) → p y ≡ b → (if b then Some y else find p ys) ≡ None → (i : ℕ) → slice_get (y ∷ ys) i ≡ Some x → p x ≡ true
    → ((j : ℕ) → find p ys ≡ None → slice_get ys j ≡ Some x → ⊥) → ⊥
missed_by p y ys x true e k i u t rest = cc
missed_by p y ys x false e k zero u t rest = let bad : p x ≡ false = subst (λ (z : Descriptor). p z ≡ false) (some_same y x u) e in cc
missed_by p y ys x false e k (suc j) u t rest = rest j k u

missed : (p : Descriptor → Bool) (xs : List Descriptor) (i : ℕ) (x : Descriptor) → find p xs ≡ None → slice_get xs i ≡ Some x → p x ≡ true → ⊥
missed p [] i x h s t = cc
missed p (y ∷ ys) i x h s t = missed_by p y ys x (p y) refl h i s t (λ j k u. missed p ys j x k u t)

holds_start : (e d : Descriptor) → e.start ≡ d.start → e.pages ≡ d.pages → 0 < d.pages → holds d.start e ≡ true
holds_start e d s p l = grind (arith, nat_tests)

held_low : (at : ℕ) (e : Descriptor) → holds at e ≡ true → e.start ≤ at
held_low at e h = grind (arith, nat_tests)

held_high : (at : ℕ) (e : Descriptor) → holds at e ≡ true → at < behind e.start e.pages
held_high at e h = grind (arith, nat_tests)

eq_of : (a b : ℕ) → (a == b) ≡ true → a ≡ b
eq_of a b h = grind (arith, nat_tests)

same_place : (d e f : Descriptor) → OneOrApart f d → f.start ≡ e.start → f.pages ≡ e.pages → e.start ≤ d.start → d.start < behind e.start e.pages → 0 < d.pages → (e.start ≡ d.start) × (e.pages ≡ d.pages)
same_place d e f (inl same) s p low high some = (sym s ∙ ap (λ (x : Descriptor). x.start) same, sym p ∙ ap (λ (x : Descriptor). x.pages) same)
same_place d e f (inr (inl before)) s p low high some = absurd (omega (arith, s, p, before, high))
same_place d e f (inr (inr after)) s p low high some = absurd (omega (arith, s, p, after, low, some))

module _ (g : Ground) (call : Call) (ground : IsGround g) (ok : first_fault g call ≡ None) (placed : EntriesArePlaced) where
  by_found : (i : ℕ) (d : Descriptor) (o : Option Descriptor) → entry_at call.entries d.start ≡ o → slice_get g.descriptors i ≡ Some d → is_runtime d ≡ true → Entry g call.entries d
  by_found i d None e s r =
      let f = some_any (λ (x : Descriptor). is_runtime x && is_named_by x d) call.entries (mapped_at g call i d ok s r) in
      let t = both_true (is_runtime f.one) _ f.passes in
      let n = (both_true (is_runtime d) _ t.1).1 in
      let q = both_true (d.start == f.one.start) _ n in
      let some = (starts_late g.layout.base (g.layout.base + 4096 * g.layout.pages) g.descriptors i d ground.covers s).2 in
      let same_start : d.start ≡ f.one.start = eq_of d.start f.one.start q.0 in
      let same_pages : d.pages ≡ f.one.pages = eq_of d.pages f.one.pages q.1 in
      let h : holds d.start f.one ≡ true = holds_start f.one d (sym same_start) (sym same_pages) some in
      let runs = t.0 in
      let p : (is_runtime f.one && holds d.start f.one) ≡ true = rw (runs, h) refl in
      absurd (missed (λ (x : Descriptor). is_runtime x && holds d.start x) call.entries f.at f.one e f.here p)
  by_found i d (Some one) e s r =
      let f = find_index (λ (x : Descriptor). is_runtime x && holds d.start x) call.entries one e in
      let t = both_true (is_runtime one) _ f.2 in
      let p = placed g call f.0 one ok f.1 t.0 in
      let k = some_any (λ (x : Descriptor). is_named_by one x) g.descriptors p.named in
      let n = (both_true (is_runtime k.one) _ k.passes).1 in
      let q = both_true (k.one.start == one.start) _ n in
      let some = (starts_late g.layout.base (g.layout.base + 4096 * g.layout.pages) g.descriptors i d ground.covers s).2 in
      let two = one_or_apart g.layout.base (g.layout.base + 4096 * g.layout.pages) g.descriptors k.at i k.one d ground.covers k.here s in
      let both_same = same_place d one k.one two (eq_of k.one.start one.start q.0) (eq_of k.one.pages one.pages q.1) (held_low d.start one t.1) (held_high d.start one t.1) some in
      record { at = f.0; one = one; here = f.1; runtime = t.0; start = both_same.0; pages = both_same.1; found = e }

  pub entry_of : (i : ℕ) (d : Descriptor) → slice_get g.descriptors i ≡ Some d → is_runtime d ≡ true → Entry g call.entries d
  entry_of i d s r = by_found i d (entry_at call.entries d.start) refl s r

  moved_place : (d e : Descriptor) → e.start ≡ d.start → d.start < 2 ^ 64 → e.virt < 2 ^ 64 → sum d.start (displacement_by (Some e)) ≡ e.virt
  moved_place d e s l h = grind arith

  -- the virtual place of a runtime descriptor is its entry's
  pub place_of : (i : ℕ) (d : Descriptor) → slice_get g.descriptors i ≡ Some d → (e : Entry g call.entries d) → virtual_of call.entries d.start ≡ e.one.virt
  place_of i d s e =
      let found = e.found in
      let p = placed g call e.at e.one ok e.here e.runtime in
      let ram = ground.layout.ram.end in
      let end = (starts_late g.layout.base (g.layout.base + 4096 * g.layout.pages) g.descriptors i d ground.covers s).1 in
      let some = (starts_late g.layout.base (g.layout.base + 4096 * g.layout.pages) g.descriptors i d ground.covers s).2 in
      let high = p.high in
      rw found (moved_place d e.one e.start (omega (arith, ram, end, some)) (omega (arith, high)))
