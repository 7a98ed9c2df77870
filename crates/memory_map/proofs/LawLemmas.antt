-- The memory map covers RAM, and each address has its page's type.
use Rattle.std.proofs.Common.{◌≡◌, ℕ, zero, suc, ◌+◌, ◌-◌, ◌*◌, ◌/◌, ◌<◌, ◌≤◌, List, [], ◌∷◌, length, refl, sym, ◌∙◌, arith, Bool, true, false, inl, inr, subst}
use Rattle.std.specs.Prelude.{◌==◌, ◌&&◌, nat_le, nat_lt, Option, Some, None, slice_get, if◌then◌else◌}
use Rattle.std.specs.List.{find}
use Rattle.std.proofs.lemmas.List.{length-map}
use Rattle.std.proofs.lemmas.Bool.Decides.{nat_tests, leb_tells, Decides-eqb}
use Rattle.page_alloc.specs.declared.page.Page.{Page}
use Rattle.page_alloc.specs.Pages.{PageList, page_at}
use Rattle.memory_map.specs.declared.descriptor.Descriptor.{Descriptor}
use Rattle.memory_map.specs.Map.{map_from, map_of, with_page, described, holds, types_of, descriptor_of, attribute_of, Covers, FirstDiffers, NeighboursDiffer, IsDescribed}
use Rattle.memory_map.specs.Laws.{MapIsMap}

-- a page in front of descriptors that cover the rest
front_covers : (at t end : ℕ) (list : List Descriptor) → Covers (at + 4096) end list → Covers at end (with_page at t list)
front_covers at t end [] c = (refl, omega arith, c)
front_covers at t end (d ∷ ds) c = by (t == d.memory_type)
  where
    next : at + 4096 + 4096 * d.pages ≡ at + 4096 * (d.pages + 1)
    next = omega arith

    by : (b : Bool) → Covers at end (if b then described at t (d.pages + 1) ∷ ds else described at t 1 ∷ d ∷ ds)
    by true = (refl, omega arith, subst (λ n. Covers n end ds) next c.2)
    by false = (refl, omega arith, c)

covers : (at : ℕ) (types : List ℕ) → Covers at (at + 4096 * length types) (map_from at types)
unfolding map_from
covers at [] = omega arith
covers at (t ∷ ts) =
    let end : at + 4096 + 4096 * length ts ≡ at + 4096 * suc (length ts) = omega arith in
    front_covers at t (at + 4096 * suc (length ts)) (map_from (at + 4096) ts) (subst (λ n. Covers (at + 4096) n (map_from (at + 4096) ts)) end (covers (at + 4096) ts))

-- and whose neighbours differ
front_differs : (at t : ℕ) (list : List Descriptor) → NeighboursDiffer list → NeighboursDiffer (with_page at t list)
front_differs at t [] n = (tt, tt)
front_differs at t (d ∷ ds) n = by (t == d.memory_type) refl
  where
    first : (es : List Descriptor) → t ≡ d.memory_type → FirstDiffers d.memory_type es → FirstDiffers t es
    first [] e h = tt
    first (f ∷ fs) e h = λ same. h (sym e ∙ same)

    by : (b : Bool) → (t == d.memory_type) ≡ b → NeighboursDiffer (if b then described at t (d.pages + 1) ∷ ds else described at t 1 ∷ d ∷ ds)
    by true e = (first ds ((Decides-eqb t d.memory_type).0 e) n.0, n.1)
    by false e = (λ same. absurd (let yes' = (Decides-eqb t d.memory_type).1 same in cc), n)

differ : (at : ℕ) (types : List ℕ) → NeighboursDiffer (map_from at types)
unfolding map_from
differ at [] = tt
differ at (t ∷ ts) = front_differs at t (map_from (at + 4096) ts) (differ (at + 4096) ts)

-- an address before descriptors is in none
before : (from to at : ℕ) (list : List Descriptor) → Covers from to list → at < from → descriptor_of list at ≡ None
before from to at [] c h = refl
before from to at (d ∷ ds) c h =
    let start = c.0 in
    let out : holds at d ≡ false = (let l : at < d.start = omega (arith, start) in grind (arith, nat_tests)) in
    rw out (before (from + 4096 * d.pages) to at ds c.2 (omega arith))

-- what is found for an address, by its page's type
abbrev Typed : ℕ → Option ℕ → Option Descriptor → Type 0
Typed at (Some t) (Some d) = (d.memory_type ≡ t) × (holds at d ≡ true) × (d.virt ≡ 0) × (d.attribute ≡ attribute_of d.memory_type)
Typed at (Some t) None = ⊥
Typed at None (Some d) = ⊥
Typed at None None = Unit {0}

abbrev type_from : ℕ → List ℕ → ℕ → Option ℕ
type_from base types at = if nat_le base at then slice_get types ((at - base) / 4096) else None

in_first : (base t at : ℕ) (list : List Descriptor) → base ≤ at → at < base + 4096 → Typed at (Some t) (descriptor_of (with_page base t list) at)
in_first base t at [] low high =
    let p : nat_le base at ≡ true = grind (arith, nat_tests) in
    let q : nat_lt at (base + 4096 * 1) ≡ true = grind (arith, nat_tests) in
    rw (p, q) (refl, rw (p, q) refl, refl, refl)
in_first base t at (d ∷ ds) low high = by (t == d.memory_type)
  where
    p : nat_le base at ≡ true
    p = grind (arith, nat_tests)

    by : (b : Bool) → Typed at (Some t) (descriptor_of (if b then described base t (d.pages + 1) ∷ ds else described base t 1 ∷ d ∷ ds) at)
    by true = let q : nat_lt at (base + 4096 * (d.pages + 1)) ≡ true = (let l : at < base + 4096 * (d.pages + 1) = omega arith in grind (arith, nat_tests)) in rw (p, q) (refl, rw (p, q) refl, refl, refl)
    by false = let q : nat_lt at (base + 4096 * 1) ≡ true = grind (arith, nat_tests) in rw (p, q) (refl, rw (p, q) refl, refl, refl)

-- an address behind the first page is found as in the rest
kept_by : (at base t n : ℕ) (o : Option ℕ) (d : Descriptor) (ds : List Descriptor) → t ≡ d.memory_type → (nat_le base at && nat_lt at (base + 4096 * n)) ≡ holds at d
    → (b : Bool) → holds at d ≡ b → Typed at o (if b then Some d else find (holds at) ds) → Typed at o (descriptor_of (described base t n ∷ ds) at)
kept_by at base t n None d ds same alike true h typed = absurd typed
kept_by at base t n (Some u) d ds same alike true h typed = rw (alike, h) (same ∙ typed.0, alike ∙ h, refl, refl)
kept_by at base t n o d ds same alike false h typed = rw (alike, h) typed

in_later : (base t at to : ℕ) (o : Option ℕ) (list : List Descriptor) → Covers (base + 4096) to list → base + 4096 ≤ at → Typed at o (descriptor_of list at) → Typed at o (descriptor_of (with_page base t list) at)
in_later base t at to o [] c high typed =
    let q : nat_lt at (base + 4096 * 1) ≡ false = grind (arith, nat_tests) in
    let p : nat_le base at ≡ true = (let l : base ≤ at = omega arith in grind (arith, nat_tests)) in
    rw (p, q) typed
in_later base t at to o (d ∷ ds) c high typed = by (t == d.memory_type) refl
  where
    p : nat_le base at ≡ true
    p = let l : base ≤ at = omega arith in grind (arith, nat_tests)

    alike : (nat_le base at && nat_lt at (base + 4096 * (d.pages + 1))) ≡ holds at d
    alike = let start = c.0 in elim (leb_tells (base + 4096 * (d.pages + 1)) at) [
      | inl r ↦ (let over = r.1 in grind (arith, nat_tests))
      | inr r ↦ (let under = r.1 in grind (arith, nat_tests))
    ]

    by : (b : Bool) → (t == d.memory_type) ≡ b → Typed at o (descriptor_of (if b then described base t (d.pages + 1) ∷ ds else described base t 1 ∷ d ∷ ds) at)
    by true e = kept_by at base t (d.pages + 1) o d ds ((Decides-eqb t d.memory_type).0 e) alike (holds at d) refl typed
    by false e = let q : nat_lt at (base + 4096 * 1) ≡ false = grind (arith, nat_tests) in rw (p, q) typed

typed : (types : List ℕ) (base at : ℕ) → Typed at (type_from base types at) (descriptor_of (map_from base types) at)
unfolding map_from
typed [] base at = by (nat_le base at)
  where
    by : (b : Bool) → Typed at (if b then None else None) None
    by true = tt
    by false = tt
typed (t ∷ ts) base at = elim (leb_tells base at) [
  | inr l ↦ (let under : at < base = l.1 in
      let none : descriptor_of (with_page base t (map_from (base + 4096) ts)) at ≡ None
      = before base (base + 4096 * suc (length ts)) at (with_page base t (map_from (base + 4096) ts)) (covers base (t ∷ ts)) under in
      rw (l.0, none) tt)
  | inl l ↦ (let low : base ≤ at = l.1 in elim (leb_tells (base + 4096) at) [
    | inr h ↦ (let high : at < base + 4096 = h.1 in
        let first : (at - base) / 4096 ≡ 0 = omega arith in
        rw (l.0, first) (in_first base t at (map_from (base + 4096) ts) low high))
    | inl h ↦ (let high : base + 4096 ≤ at = h.1 in
        let next : (at - base) / 4096 ≡ suc ((at - (base + 4096)) / 4096) = omega arith in
        let rest : Typed at (slice_get ts ((at - (base + 4096)) / 4096)) (descriptor_of (map_from (base + 4096) ts) at) = rw h.0 at (typed ts (base + 4096) at) in
        rw (l.0, next) (in_later base t at (base + 4096 + 4096 * length ts) (slice_get ts ((at - (base + 4096)) / 4096)) (map_from (base + 4096) ts) (covers (base + 4096) ts) high rest))
  ])
]

-- by its page
type_of : Option Page → Option ℕ
type_of None = None
type_of (Some page) = Some page.memory_type

get-types : (pages : List Page) (i : ℕ) → slice_get (types_of pages) i ≡ type_of (slice_get pages i)
unfolding type_of
get-types [] i = refl
get-types (page ∷ pages) zero = refl
get-types (page ∷ pages) (suc i) = get-types pages i

page_typed : (at : ℕ) (o : Option Page) (f : Option Descriptor) → Typed at (type_of o) f → IsDescribed at o f
unfolding type_of
page_typed at None None h = tt
page_typed at None (Some d) h = h
page_typed at (Some page) None h = h
page_typed at (Some page) (Some d) h = h

type_at : (m : PageList) (at : ℕ) → type_from m.base (types_of m.pages) at ≡ type_of (page_at m at)
unfolding page_at type_of
type_at m at = by (nat_le m.base at)
  where
    by : (b : Bool) → (if b then slice_get (types_of m.pages) ((at - m.base) / 4096) else None) ≡ type_of (if b then slice_get m.pages ((at - m.base) / 4096) else None)
    by true = get-types m.pages ((at - m.base) / 4096)
    by false = refl

pub map_is_map : MapIsMap
map_is_map m = record {
  covers = subst (λ n. Covers m.base (m.base + 4096 * n) (map_of m)) (length-map m.pages (λ (page : Page). page.memory_type)) (covers m.base (types_of m.pages));
  differ = differ m.base (types_of m.pages);
  types = λ at. page_typed at (page_at m at) (descriptor_of (map_of m) at) (subst (λ o. Typed at o (descriptor_of (map_of m) at)) (type_at m at) (typed (types_of m.pages) m.base at));
}
