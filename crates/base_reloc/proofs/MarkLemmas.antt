-- Marks of bytes beside the sites that have them.
use Rattle.std.proofs.Common.{◌≡◌, ℕ, ◌+◌, ◌-◌, ◌<◌, ◌≤◌, ◌||◌, List, [], ◌∷◌, ◌++◌, length, get_or, replicate, Bool, true, false, ltb, Result, Ok, Err, refl, sym, ap, ◌∙◌, arith, inl, inr, ◌⊎◌}
use Rattle.std.specs.List.{list_any, slice_range}
use Rattle.std.proofs.lemmas.Bool.{cases_lt, cases_Bool}
use Rattle.std.proofs.lemmas.Bool.Decides.{nat_tests}
use Rattle.std.proofs.lemmas.List.{get_or-replicate, get_or_default, length-replicate, length-append, length-take, length-drop}
use Rattle.std.proofs.lemmas.List.Edits.{length-between, get_or-between}
use Rattle.std.proofs.lemmas.List.Folds.{list_any-append, Any-from_list_any, list_any_at}
use borrow.Author.Tests.{ltb-false}
use borrow.Rule.Slice.PartMut.{put_mid}
use Rattle.base_reloc.proofs.ListLemmas.{get_or-before, get_or-in, get_or-behind}
use Rattle.base_reloc.specs.declared.site.Site.{Site}
use Rattle.base_reloc.specs.declared.site.SiteKind.{SiteKind}
use Rattle.base_reloc.specs.declared.site.SiteKind.TheVariants.{Dir64, Highlow, High20}
use Rattle.base_reloc.specs.Sites.{width_of, end_of, covers, meets}
use Rattle.base_reloc.specs.declared.fault.RelocFault.{RelocFault}
use Rattle.base_reloc.specs.declared.fault.RelocFault.TheVariants as faults
use Rattle.base_reloc.specs.Kept.{with_room, Stops}
use Rattle.base_reloc.specs.Marks.{AreMarked, unmarked, Keeps}

same_tests : (a b : Bool) → (a ≡ true → b ≡ true) → (b ≡ true → a ≡ true) → a ≡ b
same_tests true b forth back = sym (forth refl)
same_tests false true forth back = back refl
same_tests false false forth back = refl

or_true : (b : Bool) → (b || (true || false)) ≡ true
or_true true = refl
or_true false = refl

or_false : (b : Bool) → (b || (false || false)) ≡ b
or_false true = refl
or_false false = refl

-- an element that passes, which any other test finds too
any_found : {X : Type 0} (p : X → Bool) (xs : List X) → list_any p xs ≡ true → (x : X) × (p x ≡ true) × ((q : X → Bool) → q x ≡ true → list_any q xs ≡ true)
any_found p [] h = absurd (let e : false ≡ true = h in cc)
any_found p (x ∷ xs) h =
    elim (cases_Bool (p x)) [
      | inl here ↦ (x, here, λ q passes. rw passes refl)
      | inr later ↦
          let found = any_found p xs (rw later at h) in
          (found.0, found.1, λ q passes. elim (cases_Bool (q x)) [ inl first ↦ rw first refl | inr other ↦ rw other (found.2 q passes) ])
    ]

pub width_low : (kind : SiteKind) → 4 ≤ width_of kind
width_low Dir64 = omega arith
width_low Highlow = omega arith
width_low High20 = omega arith

pub width_high : (kind : SiteKind) → width_of kind ≤ 8
width_high Dir64 = omega arith
width_high Highlow = omega arith
width_high High20 = omega arith

module _ (sites : List Site) (marks : List Bool) (at width : ℕ) (marked : AreMarked sites marks) (fits : at + width ≤ length marks) (some : 0 < width) where
  mark_meets : list_any (λ (mark : Bool). mark) (slice_range marks at (at + width)) ≡ true → list_any (meets at width) sites ≡ true
  mark_meets h =
      let place = Any-from_list_any (λ (mark : Bool). mark) (slice_range marks at (at + width)) h in
      let k : ℕ = place.0 in
      let long : length (slice_range marks at (at + width)) ≡ at + width - at = length-between marks at (at + width) fits in
      let below : at + k < at + width = omega (arith, place.2, long) in
      let there : get_or (slice_range marks at (at + width)) k false ≡ true = get_or_default (slice_range marks at (at + width)) k false place.1 place.2 ∙ place.3 ∙ place.4 in
      let mark : get_or marks (at + k) false ≡ true = sym (get_or-between marks at (at + width) k false below) ∙ there in
      let covered : list_any (covers (at + k)) sites ≡ true = sym (marked (at + k) (omega arith)) ∙ mark in
      let found = any_found (covers (at + k)) sites covered in
      let site : Site = found.0 in
      let within : covers (at + k) site ≡ true = found.1 in
      found.2 (meets at width) (grind (arith, nat_tests))

  meets_mark : list_any (meets at width) sites ≡ true → list_any (λ (mark : Bool). mark) (slice_range marks at (at + width)) ≡ true
  meets_mark h =
      let found = any_found (meets at width) sites h in
      let site : Site = found.0 in
      let met : meets at width site ≡ true = found.1 in
      let wide : 4 ≤ width_of site.kind = width_low site.kind in
      let shared : (k : ℕ) × (k < width) × (covers (at + k) site ≡ true) =
      elim (cases_lt at site.at) [
        | inl later ↦ (site.at - at, grind (arith, nat_tests), grind (arith, nat_tests))
        | inr earlier ↦ (0, some, grind (arith, nat_tests))
      ] in
      let k : ℕ = shared.0 in
      let below : at + k < at + width = omega (arith, shared.1) in
      let covered : list_any (covers (at + k)) sites ≡ true = found.2 (covers (at + k)) shared.2 in
      let mark : get_or marks (at + k) false ≡ true = marked (at + k) (omega arith) ∙ covered in
      let long : length (slice_range marks at (at + width)) ≡ at + width - at = length-between marks at (at + width) fits in
      list_any_at (λ (m : Bool). m) (slice_range marks at (at + width)) k false (omega (arith, long)) (get_or-between marks at (at + width) k false below ∙ mark)

  -- a mark in a part, exactly where a site meets it
  pub marks_meet : list_any (λ (mark : Bool). mark) (slice_range marks at (at + width)) ≡ list_any (meets at width) sites
  marks_meet = same_tests _ _ mark_meets meets_mark

-- a site more, with its bytes marked
pub marked_more : (sites : List Site) (marks part : List Bool) (site : Site) (n : ℕ) → AreMarked sites marks → end_of site ≤ length marks → n ≡ width_of site.kind → part ≡ replicate n true → AreMarked (sites ++ site ∷ []) (put_mid site.at n marks part)
marked_more sites marks part site n marked fits is part_is at below =
    let long : length part ≡ n = ap length part_is ∙ length-replicate n true in
    let room : site.at + n ≤ length marks = omega arith in
    let whole : length (put_mid site.at n marks part) ≡ length marks = simp (length-append, length-take, length-drop) (omega arith) in
    let inside : at < length marks = omega arith in
    elim (cases_Bool (covers at site)) [
      | inl has ↦
          let behind : site.at ≤ at = grind (arith, nat_tests) in
          let before : at < site.at + n = grind (arith, nat_tests) in
          let mark : get_or (put_mid site.at n marks part) at false ≡ true = get_or-in site.at n marks part at false long room behind before ∙ rw part_is (get_or-replicate n (at - site.at) true false (omega arith)) in
          mark ∙ sym (list_any-append (covers at) sites (site ∷ []) ∙ rw has (or_true (list_any (covers at) sites)))
      | inr lacks ↦
          let same : get_or (put_mid site.at n marks part) at false ≡ get_or marks at false =
          elim (cases_lt at site.at) [
            | inl before ↦ get_or-before site.at n marks part at false before (omega arith)
            | inr behind ↦ get_or-behind site.at n marks part at false long room (grind (arith, nat_tests))
          ] in
          same ∙ marked at inside ∙ sym (list_any-append (covers at) sites (site ∷ []) ∙ rw lacks (or_false (list_any (covers at) sites)))
    ]

-- ---- one entry

room_is : {X : Type 0} (sites : List Site) (marks : List Bool) (at width i : ℕ) (x : X) → AreMarked sites marks → 0 < width
    → ((unmarked marks at width i ≡ Ok tt) × (with_room (length marks) sites i at width x ≡ Ok x) × (at + width ≤ length marks)) ⊎ ((fault : RelocFault) × (unmarked marks at width i ≡ Err fault) × (with_room (length marks) sites i at width x ≡ Err fault))
room_is sites marks at width i x marked some =
    elim (cases_Bool (ltb (length marks) (at + width))) [
      | inl outside ↦ inr (faults.Outside i, rw outside refl, rw outside refl)
      | inr inside ↦
          let fits : at + width ≤ length marks = ltb-false (length marks) (at + width) inside in
          let meet = marks_meet sites marks at width marked fits some in
          elim (cases_Bool (list_any (meets at width) sites)) [
            | inl met ↦ inr (faults.Overlap i, rw (inside, meet, met) refl, rw (inside, met) refl)
            | inr free ↦ inl (rw (inside, meet, free) refl, rw (inside, free) refl, fits)
          ]
    ]

pub room_found : {X : Type 0} (sites : List Site) (marks : List Bool) (at width i : ℕ) (x : X) → AreMarked sites marks → 0 < width → unmarked marks at width i ≡ Ok tt → (with_room (length marks) sites i at width x ≡ Ok x) × (at + width ≤ length marks)
room_found sites marks at width i x marked some ok =
    elim (room_is sites marks at width i x marked some) [
      | inl found ↦ (found.1, found.2)
      | inr refused ↦ absurd (let e : ◌≡◌ {A = Result (Unit {0}) RelocFault} (Ok tt) (Err refused.0) = sym ok ∙ refused.1 in cc)
    ]

pub room_refused : {X : Type 0} (sites : List Site) (marks : List Bool) (at width i : ℕ) (x : X) (fault : RelocFault) → AreMarked sites marks → 0 < width → unmarked marks at width i ≡ Err fault → with_room (length marks) sites i at width x ≡ Err fault
room_refused sites marks at width i x fault marked some err =
    elim (room_is sites marks at width i x marked some) [
      | inl found ↦ absurd (let e : ◌≡◌ {A = Result (Unit {0}) RelocFault} (Ok tt) (Err fault) = sym found.0 ∙ err in cc)
      | inr refused ↦
          let e : ◌≡◌ {A = Result (Unit {0}) RelocFault} (Err refused.0) (Err fault) = sym refused.1 ∙ err in
          let same : refused.0 ≡ fault = cc in
          refused.2 ∙ ap (λ (f : RelocFault). Err f) same
    ]

-- a fault is told as it is
pub stops : {Y : Type 0} (fault : RelocFault) (r : Result Y RelocFault) → r ≡ Err fault → Stops fault r
stops faults.Memory r h = tt
stops _ r h = h

pub room_kept : (sites : List Site) (marks : List Bool) (at width i : ℕ) (found : Result (Unit {0}) RelocFault) → AreMarked sites marks → 0 < width → found ≡ unmarked marks at width i → Keeps found sites (with_room (length marks) sites i at width sites)
room_kept sites marks at width i (Ok tt) marked some is = (room_found sites marks at width i sites marked some (sym is)).0
room_kept sites marks at width i (Err fault) marked some is = stops fault _ (room_refused sites marks at width i sites fault marked some (sym is))

pub room_fits : (sites : List Site) (marks : List Bool) (at width i : ℕ) → AreMarked sites marks → 0 < width → unmarked marks at width i ≡ Ok tt → at + width ≤ length marks
room_fits sites marks at width i marked some ok = (room_found sites marks at width i sites marked some ok).1

-- the same, as a call leaves it
pub marked_now : (sites : List Site) (marks part : List Bool) (kind : SiteKind) (from width filled : ℕ) → AreMarked sites marks → width ≡ width_of kind → from + width ≤ length marks → filled ≡ from + width - from → part ≡ replicate filled true → AreMarked (sites ++ record { at = from; kind = kind } ∷ []) (put_mid from (from + width - from) marks part)
marked_now sites marks part kind from width filled marked is fits filled_is part_is =
    let wide : from + width - from ≡ width_of kind = omega arith in
    marked_more sites marks part (record { at = from; kind = kind }) (from + width - from) marked (omega arith) wide (part_is ∙ ap (λ (n : ℕ). replicate n true) filled_is)
