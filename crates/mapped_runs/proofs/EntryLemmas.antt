-- The entry of a runtime descriptor in an accepted map, and where it puts the descriptor.
use Rattle.std.proofs.Common.{◌≡◌, ◌<◌, ◌≤◌, ◌+◌, ◌-◌, ◌*◌, ◌%◌, ℕ, zero, suc, Bool, true, false, List, [], ◌∷◌, refl, sym, subst, arith, ◌⊎◌, inl, inr, ◌∙◌, ap}
use Rattle.std.specs.Prelude.{◌^◌, ◌==◌, ◌&&◌, ◌||◌, not, slice_get, Option, Some, None, if◌then◌else◌}
use Rattle.memory_map.specs.declared.descriptor.Descriptor.{Descriptor}
use Rattle.memory_map.specs.Map.{holds}
use Rattle.map_faults.specs.declared.fault.MapFault.{MapFault}
use Rattle.map_faults.specs.Grounds.{Ground, Call, window_pages, IsGround}
use Rattle.map_faults.specs.Rules.{is_runtime, is_named_by, is_unaligned, is_out, behind, overlaps, shadows}
use Rattle.map_faults.specs.Faults.{or_next, call_fault, entries_fault, window_fault, unmapped_fault, reloc_fault, first_fault, entry_at, is_mapped}
use Rattle.map_faults.specs.Laws.{EntriesArePlaced}
use Rattle.runtime_view.specs.Views.{virtual_of}
use Rattle.mapped_runs.proofs.MemberLemmas.{IsFound, IsWithin, OneOrApart, both_true, eq_of, found_at, held_high, held_low, is_held, missed, neither, one_or_apart, same_found, some_any, some_same, within}
use Rattle.mapped_runs.proofs.GroundLemmas.{both_none}

-- ---- each runtime descriptor is named

rest_of : (b : Bool) (fault : MapFault) (rest : Option MapFault) → (if b then Some fault else rest) ≡ None → (b ≡ false) × (rest ≡ None)
rest_of true fault rest h = absurd cc
rest_of false fault rest h = (refl, h)

not_false : (a b : Bool) → a ≡ true → (a && not b) ≡ false → b ≡ true
not_false true true e h = refl
not_false true false e h = absurd cc
not_false false b e h = absurd cc

mapped_all : (entries : List Descriptor) (n : ℕ) (ds : List Descriptor) (i : ℕ) (d : Descriptor) → unmapped_fault entries n ds ≡ None → slice_get ds i ≡ Some d → is_runtime d ≡ true → is_mapped entries d ≡ true
unfolding unmapped_fault
mapped_all entries n [] i d h s r = absurd cc
mapped_all entries n (e ∷ es) zero d h s r =
    let same = some_same e d s in
    let run : is_runtime e ≡ true = subst (λ (x : Descriptor). is_runtime x ≡ true) (sym same) r in
    subst (λ (x : Descriptor). is_mapped entries x ≡ true) same (not_false (is_runtime e) (is_mapped entries e) run (rest_of (is_runtime e && not (is_mapped entries e)) _ _ h).0)
mapped_all entries n (e ∷ es) (suc i) d h s r = mapped_all entries (n + 1) es i d (rest_of (is_runtime e && not (is_mapped entries e)) _ _ h).1 s r

-- ---- the rules of an accepted map behind those of entries

pub record WindowFits (g : Ground) (call : Call) : Type 0 where
  pub even : is_unaligned g.os_virtual ≡ false
  pub inside : is_out g.os_virtual window_pages ≡ false
  pub apart : overlaps call.entries g.os_virtual window_pages ≡ false

no_fault : (b : Bool) (fault : MapFault) → (if b then Some fault else None) ≡ None → b ≡ false
no_fault true fault h = absurd cc
no_fault false fault h = refl

pub window_fits : (g : Ground) (call : Call) → first_fault g call ≡ None → WindowFits g call
unfolding first_fault window_fault
window_fits g call h =
    let fault = (both_none _ _ (both_none _ _ (both_none _ _ h).1).1).0 in
    let all = no_fault (is_unaligned g.os_virtual || (is_out g.os_virtual window_pages || (overlaps call.entries g.os_virtual window_pages || shadows g.layout g.descriptors g.os_virtual window_pages))) _ fault in
    let a = neither (is_unaligned g.os_virtual) (is_out g.os_virtual window_pages || (overlaps call.entries g.os_virtual window_pages || shadows g.layout g.descriptors g.os_virtual window_pages)) all in
    let b = neither (is_out g.os_virtual window_pages) (overlaps call.entries g.os_virtual window_pages || shadows g.layout g.descriptors g.os_virtual window_pages) a.1 in
    let c = neither (overlaps call.entries g.os_virtual window_pages) (shadows g.layout g.descriptors g.os_virtual window_pages) b.1 in
    record { even = a.0; inside = b.0; apart = c.0 }

mapped_at : (g : Ground) (call : Call) (i : ℕ) (d : Descriptor) → first_fault g call ≡ None → slice_get g.descriptors i ≡ Some d → is_runtime d ≡ true → is_mapped call.entries d ≡ true
unfolding first_fault
mapped_at g call i d h s r =
    let a = both_none (call_fault g call) (or_next (entries_fault g [] call.entries) (or_next (window_fault g call.entries) (or_next (unmapped_fault call.entries 0 g.descriptors) (reloc_fault call.entries 0 g.kept)))) h in
    let b = both_none (entries_fault g [] call.entries) (or_next (window_fault g call.entries) (or_next (unmapped_fault call.entries 0 g.descriptors) (reloc_fault call.entries 0 g.kept))) a.1 in
    let c = both_none (window_fault g call.entries) (or_next (unmapped_fault call.entries 0 g.descriptors) (reloc_fault call.entries 0 g.kept)) b.1 in
    mapped_all call.entries 0 g.descriptors i d (both_none (unmapped_fault call.entries 0 g.descriptors) (reloc_fault call.entries 0 g.kept) c.1).0 s r

-- ---- the entry of a descriptor

-- an entry for the runtime has the start and the pages of a descriptor, and none but it holds an address of the descriptor
pub record HasEntry (entries : List Descriptor) (d : Descriptor) : Type 0 where
  pub at : ℕ
  pub one : Descriptor
  pub here : slice_get entries at ≡ Some one
  pub runtime : is_runtime one ≡ true
  pub start : one.start ≡ d.start
  pub pages : one.pages ≡ d.pages
  pub found : (x : ℕ) → d.start ≤ x → x < behind d.start d.pages → entry_at entries x ≡ Some one

-- an entry that names a descriptor holds all of another, or none of it
abbrev IsOneOrOff : (e d : Descriptor) → Type 0
IsOneOrOff e d = ((e.start ≡ d.start) × (e.pages ≡ d.pages)) ⊎ ((x : ℕ) → d.start ≤ x → x < behind d.start d.pages → holds x e ≡ false)

not_held : (x : ℕ) (e : Descriptor) → (holds x e ≡ true → ⊥) → holds x e ≡ false
not_held x e h = by (holds x e) refl
  where
    by : (b : Bool) → holds x e ≡ b → holds x e ≡ false
    by true k = absurd (h k)
    by false k = k

named_or_off : (e d f : Descriptor) → OneOrApart f d → f.start ≡ e.start → f.pages ≡ e.pages → IsOneOrOff e d
named_or_off e d f (inl same) s p = inl (sym s ∙ ap (λ (x : Descriptor). x.start) same, sym p ∙ ap (λ (x : Descriptor). x.pages) same)
named_or_off e d f (inr (inl before)) s p = inr (λ x low high. not_held x e (λ h. let a = held_high x e h in omega (arith, s, p, before, low, a)))
named_or_off e d f (inr (inr after)) s p = inr (λ x low high. not_held x e (λ h. let a = held_low x e h in omega (arith, s, p, after, high, a)))

same_and : (a b c : Bool) → (a ≡ true → b ≡ c) → (a && b) ≡ (a && c)
same_and true b c h = h refl
same_and false b c h = refl

module _ (g : Ground) (call : Call) (ground : IsGround g) (ok : first_fault g call ≡ None) (placed : EntriesArePlaced) where
  abbrev end : ℕ
  end = g.layout.base + 4096 * g.layout.pages

  module _ (i : ℕ) (d : Descriptor) (listed : slice_get g.descriptors i ≡ Some d) (run : is_runtime d ≡ true) where
    inside : IsWithin g.layout.base end d
    inside = within g.layout.base end g.descriptors i d ground.covers listed

    one_or_off : (j : ℕ) (e : Descriptor) → slice_get call.entries j ≡ Some e → is_runtime e ≡ true → IsOneOrOff e d
    one_or_off j e s r =
        let p = placed g call j e ok s r in
        let k = some_any (λ (x : Descriptor). is_named_by e x) g.descriptors p.named in
        let q = both_true (k.one.start == e.start) _ (both_true (is_runtime k.one) _ k.passes).1 in
        named_or_off e d k.one (one_or_apart g.layout.base end g.descriptors k.at i k.one d ground.covers k.here listed) (eq_of k.one.start e.start q.0) (eq_of k.one.pages e.pages q.1)

    alike : (x : ℕ) → d.start ≤ x → x < behind d.start d.pages → (e : Descriptor) → IsOneOrOff e d → holds x e ≡ holds d.start e
    alike x low high e (inl same) =
        let some = inside.some in let s = same.0 in let p = same.1 in
        is_held x e (omega (arith, s, low)) (omega (arith, s, p, high)) ∙ sym (is_held d.start e (omega (arith, s)) (omega (arith, s, p, some)))
    alike x low high e (inr off) = let some = inside.some in off x low high ∙ sym (off d.start (omega arith) (omega (arith, some)))

    found_alike : (x : ℕ) → d.start ≤ x → x < behind d.start d.pages → entry_at call.entries x ≡ entry_at call.entries d.start
    found_alike x low high =
        same_found (λ (e : Descriptor). is_runtime e && holds x e) (λ (e : Descriptor). is_runtime e && holds d.start e) call.entries
        (λ j e s. same_and (is_runtime e) (holds x e) (holds d.start e) (λ r. alike x low high e (one_or_off j e s r)))

    by_found : (o : Option Descriptor) → entry_at call.entries d.start ≡ o → HasEntry call.entries d
    by_found None e =
        let some = inside.some in
        let f = some_any (λ (x : Descriptor). is_runtime x && is_named_by x d) call.entries (mapped_at g call i d ok listed run) in
        let t = both_true (is_runtime f.one) _ f.passes in
        let q = both_true (d.start == f.one.start) _ (both_true (is_runtime d) _ t.1).1 in
        let s : d.start ≡ f.one.start = eq_of d.start f.one.start q.0 in
        let p : d.pages ≡ f.one.pages = eq_of d.pages f.one.pages q.1 in
        let h : holds d.start f.one ≡ true = is_held d.start f.one (omega (arith, s)) (omega (arith, s, p, some)) in
        let runs = t.0 in
        let both : (is_runtime f.one && holds d.start f.one) ≡ true = rw (runs, h) refl in
        absurd (missed (λ (x : Descriptor). is_runtime x && holds d.start x) call.entries f.at f.one e f.here both)
    by_found (Some one) e =
        let f = found_at (λ (x : Descriptor). is_runtime x && holds d.start x) call.entries one e in
        let t = both_true (is_runtime one) _ f.passes in
        by (one_or_off f.at one f.here t.0)
      where
        f : IsFound (λ (x : Descriptor). is_runtime x && holds d.start x) call.entries one
        f = found_at (λ (x : Descriptor). is_runtime x && holds d.start x) call.entries one e

        t : (is_runtime one ≡ true) × (holds d.start one ≡ true)
        t = both_true (is_runtime one) (holds d.start one) f.passes

        by : IsOneOrOff one d → HasEntry call.entries d
        by (inl same) = record { at = f.at; one = one; here = f.here; runtime = t.0; start = same.0; pages = same.1; found = λ x low high. found_alike x low high ∙ e }
        by (inr off) = let some = inside.some in let bad = off d.start (omega arith) (omega (arith, some)) in let held = t.1 in absurd cc

    pub entry_of : HasEntry call.entries d
    entry_of = by_found (entry_at call.entries d.start) refl

-- ---- where an entry puts an address

sum_is : (x start virt : ℕ) → start ≤ x → x < 2 ^ 64 → virt + (x - start) < 2 ^ 64 → (x + (virt + (2 ^ 64 - start)) % 2 ^ 64) % 2 ^ 64 ≡ virt + (x - start)
sum_is x start virt low a b = omega (arith, low, a, b)

pub place_by : (entries : List Descriptor) (x : ℕ) (e : Descriptor) → entry_at entries x ≡ Some e → e.start ≤ x → x < 2 ^ 64 → e.virt + (x - e.start) < 2 ^ 64 → virtual_of entries x ≡ e.virt + (x - e.start)
place_by entries x e found low a b = rw found (sum_is x e.start e.virt low a b)
