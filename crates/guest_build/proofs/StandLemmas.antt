-- Each line stands at its place.
use Rattle.std.proofs.Common.{◌≡◌, ◌<◌, ◌⊎◌, inl, inr, ℕ, ◌+◌, ◌^◌, false, List, [], ◌∷◌, ◌++◌, length, take, drop, Option, Some, Ok, refl, sym, ap, subst, ◌∙◌, append_assoc, length-append, arith}
use Rattle.std.specs.Str.Lines.{lines}
use Rattle.std.proofs.Math.Seq.{take-append_seam, drop-append_seam}
use Rattle.std.proofs.lemmas.Bool.Decides.{nat_tests}
use Rattle.std.proofs.lemmas.Slice.Eq.{bytes_eq-Decides}
use Rattle.guest_build.specs.Assembled.{with_line, is_repeated, sections_from}
use Rattle.guest_build.specs.Codes.{bytes_at}
use Rattle.guest_build.specs.Faults.{on_line}
use Rattle.guest_build.specs.Layout.{Sections, no_sections, content_in, sections_with}
use Rattle.guest_build.specs.Lines.{line_of}
use Rattle.guest_build.specs.Places.{filled as filled_by, grown, extent_of, nothing_yet, place_in, found, at_origin}
use Rattle.guest_build.specs.Read.{IsMadeOf, origins_in, labels_in, place_behind, Stands, LinesStandAtTheirPlaces}
use Rattle.guest_build.specs.declared.places.Extent.{Extent}
use Rattle.guest_build.specs.declared.places.Origins.{Origins}
use Rattle.guest_build.specs.declared.places.Place.{Place}
use Rattle.guest_build.specs.declared.places.Section.{Section}
use Rattle.guest_build.specs.declared.places.Section.TheVariants as sections
use Rattle.guest_build.proofs.MadeSteps.{line_goes, one_line, put_here, continues, Agrees, filled-is, agree}
use Rattle.guest_build.proofs.MadeLemmas.{labelled-is, origins_are, nothing-agrees}
use Rattle.guest_build.proofs.LayoutLemmas.{filled_in}
use Rattle.guest_build.proofs.Sound.{filled}

-- ---- lines behind others

module _ (origins : Origins) (find : List ℕ → Option Place) where
  -- the sections behind some lines, and what others make of them
  lines_behind : (n : ℕ) (lines others : List (List ℕ)) (before all : Sections) → sections_from origins find n before (lines ++ others) ≡ Ok all
      → (made : Sections) × (sections_from origins find n before lines ≡ Ok made) × (sections_from origins find (n + length lines) made others ≡ Ok all)
  unfolding sections_from
  lines_behind n [] others before all h = (before, refl, subst (λ m. sections_from origins find m before others ≡ Ok all) (let e : n ≡ n + 0 = omega arith in e) h)
  lines_behind n (line ∷ lines) others before all h =
      let a = line_goes n (with_line origins find n before (line_of line)) (λ after. sections_from origins find (n + 1) after (lines ++ others)) all h in
      let b = lines_behind (n + 1) lines others a.0 all a.2 in
      let e : n + 1 + length lines ≡ n + length (line ∷ lines) = omega arith in
      (b.0, ap (λ r. on_line n r (λ after. sections_from origins find (n + 1) after lines)) a.1 ∙ b.1, subst (λ m. sections_from origins find m b.0 others ≡ Ok all) e b.2)

-- ---- labels

-- A label is found on one of the first lines, or where it is found among the others.
found_behind : (n : ℕ) (extent : Extent) (lines others : List (List ℕ)) (name : List ℕ)
    → ((place : Place) × (found n extent (lines ++ others) name ≡ Some place) × (place.line < n + length lines)) ⊎ (found n extent (lines ++ others) name ≡ found (n + length lines) (extent_of extent lines) others name)
unfolding found extent_of
found_behind n extent [] others name = inr (ap (λ m. found m extent others name) (let e : n ≡ n + 0 = omega arith in e))
found_behind n extent (line ∷ lines) others name =
    let more = grown extent (line_of line).statement in
    elim (labelled-is (place_in n extent) (line_of line).label name (found (n + 1) more (lines ++ others) name)) [
      | inl here ↦ inl (place_in n extent, here, omega arith)
      | inr there ↦
          elim (found_behind (n + 1) more lines others name) [
            | inl first ↦ inl (first.0, there ∙ first.1, omega (arith, first.2))
            | inr other ↦ inr (there ∙ other ∙ ap (λ m. found m (extent_of more lines) others name) (let e : n + 1 + length lines ≡ n + length (line ∷ lines) = omega arith in e))
          ]
    ]

-- A label that stands on no earlier line names the place of its own.
label_stands : (n : ℕ) (extent : Extent) (before after : List (List ℕ)) (line name : List ℕ) → (line_of line).label ≡ Some name
    → is_repeated (found n extent (before ++ line ∷ after)) (n + length before) (line_of line).label ≡ false
    → found n extent (before ++ line ∷ after) name ≡ Some (place_in (n + length before) (extent_of extent before))
unfolding found
label_stands n extent before after line name is once =
    elim (found_behind n extent before (line ∷ after) name) [
      | inl first ↦ (let e = rw (is, first.1) at once in absurd (grind (arith, nat_tests, e, first.2)))
      | inr here ↦ here ∙ rw (is, (bytes_eq-Decides name name).1 refl) refl
    ]

-- ---- bytes

-- what stands between
middle : {A : Type 0} (front here behind : List A) → take (length here) (drop (length front) ((front ++ here) ++ behind)) ≡ here
middle front here behind = rw (append_assoc, drop-append_seam front (here ++ behind), take-append_seam here behind) refl

-- ---- each line stands at its place

short : (all : Sections) (section : Section) → filled all < 2 ^ 63 → length (content_in all section).bytes < 2 ^ 63
short all sections.Text h = omega arith
short all sections.Data h = omega arith

module _ (origins : Origins) (find : List ℕ → Option Place) where
  -- The bytes of a line stand at the end of what its section holds by then.
  line_stands : (n : ℕ) (line : List ℕ) (after : List (List ℕ)) (extent : Extent) (made all : Sections) → Agrees extent made → sections_from origins find n made (line ∷ after) ≡ Ok all → filled all < 2 ^ 63
      → (let place = place_in n extent in (bytes : List ℕ) × (bytes_at origins find (at_origin origins place.section place.offset) (line_of line).statement ≡ Ok bytes) × (take (length bytes) (drop place.offset (content_in all place.section).bytes) ≡ bytes))
  line_stands n line after extent made all h is small =
      let a = one_line origins find n line after made all is in
      let more = continues origins find (n + 1) after (sections_with made (line_of line).statement a.0) all a.3 made.section in
      let whole : (content_in all made.section).bytes ≡ ((content_in made made.section).bytes ++ a.0) ++ more.0 = rw (← put_here made (line_of line).statement a.0) more.1 in
      let offset : filled_by extent made.section ≡ length (content_in made made.section).bytes =
      omega (arith, filled-is extent made made.section h, short all made.section small, ap length whole, length-append ((content_in made made.section).bytes ++ a.0) more.0, length-append (content_in made made.section).bytes a.0) in
      rw (h.section, offset) (a.0, a.1, rw whole (middle (content_in made made.section).bytes a.0 more.0))

module _ (text : List ℕ) (entry : ℕ) (all : Sections) (made : IsMadeOf text entry all) (small : filled all < 2 ^ 63) where
  stands : (before after : List (List ℕ)) (line : List ℕ) → lines text ≡ before ++ line ∷ after → Stands text all (line_of line) (place_behind before)
  stands before after line is =
      let origins = origins_in text in
      let find = labels_in text in
      let whole : sections_from origins find 1 no_sections (before ++ line ∷ after) ≡ Ok all = subst (λ ls. sections_from origins find 1 no_sections ls ≡ Ok all) is made.sections in
      let a = lines_behind origins find 1 before (line ∷ after) no_sections all whole in
      let agrees = agree origins find 1 before nothing_yet no_sections a.0 nothing-agrees a.1 in
      let here = line_stands origins find (1 + length before) line after (extent_of nothing_yet before) a.0 all agrees a.2 small in
      let once = (one_line origins find (1 + length before) line after a.0 all a.2).4 in
      let found_in = λ (ls : List (List ℕ)). found 1 nothing_yet ls in
      record {
        bytes = here.0;
        made = here.1;
        there = here.2;
        named = λ name label. subst (λ ls. is_repeated (found_in ls) (1 + length before) (line_of line).label ≡ false → found_in ls name ≡ Some (place_behind before)) (sym is) (label_stands 1 nothing_yet before after line name label) once;
      }

pub places : LinesStandAtTheirPlaces
places text entry all made small =
    let fits = filled_in entry all small in
    let agrees = agree (origins_in text) (labels_in text) 1 (lines text) nothing_yet no_sections all nothing-agrees made.sections in
    (origins_are (extent_of nothing_yet (lines text)) all agrees fits, stands text entry all made fits)
