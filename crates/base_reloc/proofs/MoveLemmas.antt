-- Bytes where sites are moved.
use Rattle.std.proofs.Common.{◌≡◌, ℕ, ◌+◌, ◌-◌, ◌<◌, ◌≤◌, ◌||◌, suc, min, List, [], ◌∷◌, length, get_or, take, drop, Bool, true, false, is_none, cond, eqb, map, Option, Some, refl, sym, ap, subst, ◌∙◌, arith, inl, inr, All}
use Rattle.std.specs.Prelude.{slice_index, find}
use Rattle.std.specs.List.{list_any, AllPairs, AllByRecursion, IsDistinct}
use Rattle.std.proofs.lemmas.Map.Steps.{length-le_from_distinct_below}
use Rattle.std.specs.Int.{to_le_bytes, w64}
use Rattle.std.proofs.lemmas.Bool.{cases_lt, cases_Bool}
use Rattle.std.proofs.lemmas.Bool.Decides.{nat_tests}
use Rattle.std.proofs.lemmas.List.{get_or-take, length-take-le, drop_more, length-map, length-take}
use Rattle.std.proofs.lemmas.List.Folds.{Any-from_list_any}
use borrow.Rule.Slice.PartMut.{put_mid}
use Rattle.pe_image.specs.Numbers.{u32_at, u64_at}
use Rattle.base_reloc.proofs.ListLemmas.{get_or-before, get_or-in, get_or-behind}
use Rattle.base_reloc.specs.declared.site.Site.{Site}
use Rattle.base_reloc.specs.declared.site.SiteKind.{SiteKind}
use Rattle.base_reloc.specs.declared.site.SiteKind.TheVariants.{Dir64, Highlow, High20}
use Rattle.base_reloc.specs.Sites.{width_of, end_of, covers, AreApart}
use Rattle.base_reloc.specs.Moved.{moved_word, word_at, moved_at, byte_in, byte_of, moved_byte, first_leaving}
use Rattle.base_reloc.proofs.MarkLemmas.{width_low, width_high}

-- a site's bytes with those of a word written over them
pub site_written : (bytes part : List ℕ) (site : Site) (n word displacement at : ℕ) → end_of site ≤ length bytes → n ≡ width_of site.kind → part ≡ take n (to_le_bytes w64 word) → moved_at bytes displacement site ≡ Some word
    → get_or (put_mid site.at (site.at + n - site.at) bytes part) at 0 ≡ cond (covers at site) (byte_in (at - site.at) (moved_at bytes displacement site) (slice_index bytes at)) (slice_index bytes at)
site_written bytes part site n word displacement at fits is part_is moved =
    let wide : site.at + n - site.at ≡ n = omega arith in
    let few : n ≤ 8 = omega (arith, width_high site.kind) in
    let long : length part ≡ n = ap length part_is ∙ length-take-le n (to_le_bytes w64 word) few in
    let room : site.at + n ≤ length bytes = omega arith in
    elim (cases_Bool (covers at site)) [
      | inl has ↦
          let behind : site.at ≤ at = grind (arith, nat_tests) in
          let before : at < site.at + n = grind (arith, nat_tests) in
          let same : get_or (put_mid site.at n bytes part) at 0 ≡ get_or part (at - site.at) 0 = get_or-in site.at n bytes part at 0 long room behind before in
          let byte : get_or part (at - site.at) 0 ≡ get_or (to_le_bytes w64 word) (at - site.at) 0 = rw part_is (get_or-take n (to_le_bytes w64 word) (at - site.at) 0 (omega arith)) in
          rw (wide, has, moved) (same ∙ byte)
      | inr lacks ↦
          let same : get_or (put_mid site.at n bytes part) at 0 ≡ get_or bytes at 0 =
          elim (cases_lt at site.at) [
            | inl before ↦ get_or-before site.at n bytes part at 0 before (omega arith)
            | inr behind ↦ get_or-behind site.at n bytes part at 0 long room (grind (arith, nat_tests))
          ] in
          rw (wide, lacks) same
    ]

-- ---- all sites

-- no byte of a site is one of a later site
abbrev pub Separate : List Site → Type 0
Separate [] = Unit {0}
Separate (site ∷ sites) = ((at : ℕ) → covers at site ≡ true → list_any (covers at) sites ≡ false) × Separate sites

separate_first : (site : Site) (sites : List Site) → ((k : ℕ) (d : Site) → k < length sites → AreApart site (get_or sites k d)) → (at : ℕ) → covers at site ≡ true → list_any (covers at) sites ≡ false
separate_first site sites apart at has =
    elim (cases_Bool (list_any (covers at) sites)) [
      | inl also ↦
          let place = Any-from_list_any (covers at) sites also in
          let other : Site = place.1 in
          let both : covers at other ≡ true = place.4 in
          let away : AreApart site other = let P : Site → Type 0 = λ s. AreApart site s in subst P place.3 (apart place.0 other place.2) in
          absurd (elim away [ inl before ↦ grind (arith, nat_tests) | inr behind ↦ grind (arith, nat_tests) ])
      | inr none ↦ none
    ]

pub separate : (sites : List Site) → AllPairs AreApart sites → Separate sites
separate [] apart = tt
separate (site ∷ sites) apart =
    (separate_first site sites (λ k d below. apart 0 (suc k) d (omega arith) (omega arith)), separate sites (λ i j d before below. apart (suc i) (suc j) d (omega arith) (omega arith)))

-- a byte with the words of sites written over it
abbrev pub moved_over : List ℕ → ℕ → ℕ → List Site → ℕ → ℕ
moved_over bytes displacement at [] byte = byte
moved_over bytes displacement at (site ∷ sites) byte = moved_over bytes displacement at sites (cond (covers at site) (byte_in (at - site.at) (moved_at bytes displacement site) byte) byte)

none_first : (a b : Bool) → (a || b) ≡ false → (a ≡ false) × (b ≡ false)
none_first true b h = absurd (let e : true ≡ false = h in cc)
none_first false b h = (refl, h)

over_none : (bytes : List ℕ) (displacement at : ℕ) (sites : List Site) (byte : ℕ) → list_any (covers at) sites ≡ false → moved_over bytes displacement at sites byte ≡ byte
over_none bytes displacement at [] byte none = refl
over_none bytes displacement at (site ∷ sites) byte none =
    let parts = none_first (covers at site) (list_any (covers at) sites) none in
    rw parts.0 (over_none bytes displacement at sites byte parts.1)

over_find : (bytes : List ℕ) (displacement at : ℕ) (sites : List Site) → Separate sites → moved_over bytes displacement at sites (slice_index bytes at) ≡ byte_of bytes displacement at (find (covers at) sites)
over_find bytes displacement at [] apart = refl
over_find bytes displacement at (site ∷ sites) apart =
    elim (cases_Bool (covers at site)) [
      | inl has ↦ rw has (over_none bytes displacement at sites (byte_in (at - site.at) (moved_at bytes displacement site) (slice_index bytes at)) (apart.0 at has))
      | inr lacks ↦ rw lacks (over_find bytes displacement at sites apart.1)
    ]

pub over_all : (bytes : List ℕ) (displacement at : ℕ) (sites : List Site) → AllPairs AreApart sites → moved_over bytes displacement at sites (slice_index bytes at) ≡ moved_byte bytes sites displacement at
unfolding moved_byte
over_all bytes displacement at sites apart = over_find bytes displacement at sites (separate sites apart)

-- bytes that agree in a word give the same word
same_u32 : (xs ys : List ℕ) (at : ℕ) → ((k : ℕ) → k < 4 → get_or xs (at + k) 0 ≡ get_or ys (at + k) 0) → u32_at xs at ≡ u32_at ys at
unfolding u32_at
same_u32 xs ys at same =
    let first : get_or xs at 0 ≡ get_or ys at 0 = let here : at + 0 ≡ at = omega arith in rw here at (same 0 (omega arith)) in
    rw (first, same 1 (omega arith), same 2 (omega arith), same 3 (omega arith)) refl

same_u64 : (xs ys : List ℕ) (at : ℕ) → ((k : ℕ) → k < 8 → get_or xs (at + k) 0 ≡ get_or ys (at + k) 0) → u64_at xs at ≡ u64_at ys at
unfolding u64_at
same_u64 xs ys at same =
    let low : u32_at xs at ≡ u32_at ys at = same_u32 xs ys at (λ k below. same k (omega arith)) in
    let high : u32_at xs (at + 4) ≡ u32_at ys (at + 4) = same_u32 xs ys (at + 4) (λ k below. let there : at + 4 + k ≡ at + (4 + k) = omega arith in rw there (same (4 + k) (omega arith))) in
    rw (low, high) refl

same_word : (kind : SiteKind) (xs ys : List ℕ) (at : ℕ) → ((k : ℕ) → k < width_of kind → get_or xs (at + k) 0 ≡ get_or ys (at + k) 0) → word_at kind xs at ≡ word_at kind ys at
same_word Dir64 xs ys at same = same_u64 xs ys at same
same_word Highlow xs ys at same = same_u32 xs ys at same
same_word High20 xs ys at same = same_u32 xs ys at same

-- One site more is moved: old is what stood there, start what stood there at first.
module _ (start old new : List ℕ) (displacement i : ℕ) (sites : List Site) (d : Site) (below : i < length sites) (fits : end_of (get_or sites i d) ≤ length old) (long : length new ≡ length old)
    (kept : (at : ℕ) → at < length old → list_any (covers at) (drop i sites) ≡ true → get_or old at 0 ≡ get_or start at 0)
    (written : (at : ℕ) → at < length new → get_or new at 0 ≡ cond (covers at (get_or sites i d)) (byte_in (at - (get_or sites i d).at) (moved_at old displacement (get_or sites i d)) (slice_index old at)) (slice_index old at)) where
  pub first_is : drop i sites ≡ get_or sites i d ∷ drop (i + 1) sites
  first_is = drop_more sites i d below

  at_first : (k : ℕ) → k < width_of (get_or sites i d).kind → get_or old ((get_or sites i d).at + k) 0 ≡ get_or start ((get_or sites i d).at + k) 0
  at_first k within =
      let site : Site = get_or sites i d in
      let has : covers (site.at + k) site ≡ true = grind (arith, nat_tests) in
      let some : list_any (covers (site.at + k)) (drop i sites) ≡ true = rw first_is (rw has refl) in
      kept (site.at + k) (omega arith) some

  moved_same : moved_at old displacement (get_or sites i d) ≡ moved_at start displacement (get_or sites i d)
  moved_same = ap (λ (word : ℕ). moved_word (get_or sites i d).kind word displacement) (same_word (get_or sites i d).kind old start (get_or sites i d).at at_first)

  pub over_turn : (at : ℕ) (byte : ℕ) → at < length new → moved_over start displacement at (drop i sites) (get_or old at 0) ≡ byte → moved_over start displacement at (drop (i + 1) sites) (get_or new at 0) ≡ byte
  over_turn at byte inside h = rw (written at inside, moved_same) (rw first_is at h)

  pub kept_turn : Separate (drop i sites) → (at : ℕ) → at < length new → list_any (covers at) (drop (i + 1) sites) ≡ true → get_or new at 0 ≡ get_or start at 0
  kept_turn apart at inside some =
      let apart_first = (rw first_is at apart).0 in
      let lacks : covers at (get_or sites i d) ≡ false =
      elim (cases_Bool (covers at (get_or sites i d))) [
        | inl has ↦ absurd (let e : true ≡ false = sym some ∙ apart_first at has in cc)
        | inr lacks ↦ lacks
      ] in
      let still : list_any (covers at) (drop i sites) ≡ true = rw first_is (rw lacks some) in
      rw (written at inside, lacks) (kept at (omega arith) still)

  pub apart_turn : Separate (drop i sites) → Separate (drop (i + 1) sites)
  apart_turn apart = (rw first_is at apart).1

-- ---- how many sites there are

-- sites apart begin at different offsets
starts_differ : (site : Site) (sites : List Site) → ((k : ℕ) (d : Site) → k < length sites → AreApart site (get_or sites k d)) → AllByRecursion (λ (at : ℕ). eqb site.at at ≡ false) (map (λ (s : Site). s.at) sites)
starts_differ site [] apart = tt
starts_differ site (other ∷ sites) apart =
    let away : AreApart site other = apart 0 other (omega arith) in
    let wide : 4 ≤ width_of site.kind = width_low site.kind in
    let also : 4 ≤ width_of other.kind = width_low other.kind in
    let differ : eqb site.at other.at ≡ false = elim away [ inl before ↦ grind (arith, nat_tests) | inr behind ↦ grind (arith, nat_tests) ] in
    (differ, starts_differ site sites (λ k d below. apart (suc k) d (omega arith)))

distinct : (sites : List Site) → AllPairs AreApart sites → IsDistinct eqb (map (λ (s : Site). s.at) sites)
unfolding IsDistinct
distinct [] apart = tt
distinct (site ∷ sites) apart =
    (starts_differ site sites (λ k d below. apart 0 (suc k) d (omega arith) (omega arith)), distinct sites (λ i j d before below. apart (suc i) (suc j) d (omega arith) (omega arith)))

starts_below : (n : ℕ) (sites : List Site) → All (λ (site : Site). site.at < n) sites → (q : ℕ) → list_any (eqb q) (map (λ (s : Site). s.at) sites) ≡ true → q < n
starts_below n [] below q h = absurd (let e : false ≡ true = h in cc)
starts_below n (site ∷ sites) below q h =
    elim (cases_Bool (eqb q site.at)) [
      | inl same ↦ let first : site.at < n = below 0 site (omega arith) in grind (arith, nat_tests)
      | inr other ↦ starts_below n sites (λ k d inside. below (suc k) d (omega arith)) q (rw other at h)
    ]

-- sites apart that begin below a number are no more than that
pub few_sites : (n : ℕ) (sites : List Site) → AllPairs AreApart sites → All (λ (site : Site). site.at < n) sites → length sites ≤ n
few_sites n sites apart below =
    rw (← length-map sites (λ (s : Site). s.at)) (length-le_from_distinct_below (map (λ (s : Site). s.at) sites) n (distinct sites apart) (starts_below n sites below))

pairs_take : (n : ℕ) (sites : List Site) → AllPairs AreApart sites → AllPairs AreApart (take n sites)
pairs_take n sites apart = λ i j d before below.
    let long : length (take n sites) ≡ min n (length sites) = length-take n sites in
    rw (get_or-take n sites i d (omega arith), get_or-take n sites j d (omega arith)) (apart i j d before (omega arith))

-- so is each site's number below 2^32, where the sites up to it begin there
pub number_below : (n i : ℕ) (sites : List Site) → AllPairs AreApart sites → i < length sites → All (λ (site : Site). site.at < n) (take (i + 1) sites) → i < n
number_below n i sites apart inside below =
    let long : length (take (i + 1) sites) ≡ min (i + 1) (length sites) = length-take (i + 1) sites in
    omega (arith, few_sites n (take (i + 1) sites) (pairs_take (i + 1) sites apart) below)

-- a site that stays in its range is none that leaves it
pub leaving_next : (bytes : List ℕ) (displacement i : ℕ) (sites : List Site) (d : Site) (moved : Option ℕ) (whole : Option ℕ) → i < length sites → first_leaving bytes displacement i (drop i sites) ≡ whole → moved ≡ moved_at bytes displacement (get_or sites i d) → is_none moved ≡ false → first_leaving bytes displacement (i + 1) (drop (i + 1) sites) ≡ whole
unfolding first_leaving
leaving_next bytes displacement i sites d moved whole inside so_far is stays =
    let some : is_none (moved_at bytes displacement (get_or sites i d)) ≡ false = sym (ap (λ (o : Option ℕ). is_none o) is) ∙ stays in
    rw some at (rw (drop_more sites i d inside) at so_far)
