-- One line after another.
use Rattle.std.proofs.Common.{◌≡◌, ℕ, ◌+◌, ◌<◌, ◌≤◌, Bool, true, false, List, [], ◌∷◌, Option, Some, None, Result, Ok, Bor, length, drop, map, get_or, refl, sym, ap, ◌∙◌, inl, inr, arith}
use Rattle.std.specs.Prelude.{if◌then◌else◌, ◌==◌}
use Rattle.std.proofs.Math.Path.{fun_ext}
use Rattle.std.proofs.lemmas.Bool.{cases_Bool}
use Rattle.std.specs.List.{slice_split, onto_first}
use Rattle.std.specs.Str.Lines.{lines, lines_of_parts}
use Rattle.std.proofs.lemmas.List.{drop_more, drop_all}
use Rattle.std.specs.Str.{bytes_eq}
use Rattle.uh_base.specs.Answers.{Stops, kind_of}
use Rattle.guest_build.specs.Faults.{Place as FaultPlace, on_line, fault_on, fault_of}
use Rattle.guest_build.specs.Lines.{line_of}
use Rattle.guest_build.specs.Places.{grown, extent_of, found, labelled, place_in, nothing_yet, origins_of}
use Rattle.guest_build.specs.Layout.{Sections}
use Rattle.guest_build.specs.Assembled.{with_line, sections_from, image_from, image_in}
use Rattle.guest_build.specs.Views.{or_else}
use Rattle.guest_build.specs.declared.fault.AsmKind.{AsmKind}
use Rattle.uh_base.specs.declared.fault.Fault.{Fault}
use Rattle.uh_base.specs.declared.fault.Fault.TheVariants as inner
use Rattle.guest_build.specs.declared.places.Extent.{Extent}
use Rattle.guest_build.specs.declared.places.Origins.{Origins}
use Rattle.guest_build.specs.declared.places.Place.{Place}
use Rattle.guest_build.proofs.LabelLemmas.{or_else-none}

-- the lines that are left
abbrev pub left : List (Bor (List ℕ)) → ℕ → List (List ℕ)
left lines i = map (λ line. line.now) (drop i lines)

left-more : (lines : List (Bor (List ℕ))) (i : ℕ) (d : Bor (List ℕ)) → i < length lines → left lines i ≡ (get_or lines i d).now ∷ left lines (i + 1)
left-more lines i d h = ap (λ ls. map (λ line. line.now) ls) (drop_more lines i d h)

left-all : (lines : List (Bor (List ℕ))) (i : ℕ) → length lines ≤ i → left lines i ≡ []
left-all lines i h = ap (λ ls. map (λ line. line.now) ls) (drop_all i lines h)

-- ---- how much they fill, and their labels

extent-cons : (before : Extent) (line : List ℕ) (others : List (List ℕ)) → extent_of before (line ∷ others) ≡ extent_of (grown before (line_of line).statement) others
unfolding extent_of
extent-cons before line others = refl

extent-nil : (before : Extent) → extent_of before [] ≡ before
unfolding extent_of
extent-nil before = refl

found-cons : (n : ℕ) (before : Extent) (line : List ℕ) (others : List (List ℕ)) (name : List ℕ)
    → found n before (line ∷ others) name ≡ labelled (place_in n before) (line_of line).label name (found (n + 1) (grown before (line_of line).statement) others name)
unfolding found
found-cons n before line others name = refl

found-nil : (n : ℕ) (before : Extent) (name : List ℕ) → found n before [] name ≡ None
unfolding found
found-nil n before name = refl

chosen : (place : Place) (same : Bool) (others : Option Place) → or_else (if same then Some place else None) others ≡ (if same then Some place else others)
chosen place true others = refl
chosen place false others = refl

taken : (old : Option Place) (place : Place) (label : Option (List ℕ)) (name : List ℕ) (others : Option Place)
    → or_else (or_else old (labelled place label name None)) others ≡ or_else old (labelled place label name others)
taken (Some x) place label name others = refl
taken None place None name others = refl
taken None place (Some label) name others = chosen place (bytes_eq label name) others

module _ (lines : List (Bor (List ℕ))) (i : ℕ) (d : Bor (List ℕ)) (before after : Extent) (below : i < length lines) (grows : after ≡ grown before (line_of (get_or lines i d).now).statement) where
  pub extent_step : extent_of before (left lines i) ≡ extent_of after (left lines (i + 1))
  extent_step = rw (left-more lines i d below, grows) (extent-cons before (get_or lines i d).now (left lines (i + 1)))

  pub found_step : (old new : Option Place) (name : List ℕ) → new ≡ or_else old (labelled (place_in (i + 1) before) (line_of (get_or lines i d).now).label name None)
      → or_else new (found (i + 1 + 1) after (left lines (i + 1)) name) ≡ or_else old (found (i + 1) before (left lines i) name)
  found_step old new name e =
      rw (left-more lines i d below, found-cons, grows, e)
      (taken old (place_in (i + 1) before) (line_of (get_or lines i d).now).label name (found (i + 1 + 1) (grown before (line_of (get_or lines i d).now).statement) (left lines (i + 1)) name))

pub extent_end : (lines : List (Bor (List ℕ))) (i : ℕ) (before : Extent) → length lines ≤ i → extent_of before (left lines i) ≡ before
extent_end lines i before h = rw (left-all lines i h) (extent-nil before)

pub found_end : (lines : List (Bor (List ℕ))) (i n : ℕ) (before : Extent) (old : Option Place) (name : List ℕ) → length lines ≤ i → or_else old (found n before (left lines i) name) ≡ old
found_end lines i n before old name h = rw (left-all lines i h, found-nil) (or_else-none old)

-- ---- what they make of the sections

sections-cons : (origins : Origins) (find : List ℕ → Option Place) (n : ℕ) (before : Sections) (line : List ℕ) (others : List (List ℕ))
    → sections_from origins find n before (line ∷ others) ≡ on_line n (with_line origins find n before (line_of line)) (λ after. sections_from origins find (n + 1) after others)
unfolding sections_from
sections-cons origins find n before line others = refl

sections-nil : (origins : Origins) (find : List ℕ → Option Place) (n : ℕ) (before : Sections) → sections_from origins find n before [] ≡ Ok before
unfolding sections_from
sections-nil origins find n before = refl

stops_at : (n : ℕ) (fault : Fault AsmKind) (judged : Result Sections AsmKind) (f : Sections → Result Sections FaultPlace) → Stops (kind_of fault) judged → Stops (fault_of (fault_on n fault)) (on_line n judged f)
stops_at n inner.Memory judged f h = tt
stops_at n (inner.Kind kind) judged f h = rw h refl

module _ (origins : Origins) (find : List ℕ → Option Place) (lines : List (Bor (List ℕ))) (i : ℕ) (d : Bor (List ℕ)) (before : Sections) (whole : Result Sections FaultPlace)
    (below : i < length lines) (so_far : sections_from origins find (i + 1) before (left lines i) ≡ whole) where
  turn : on_line (i + 1) (with_line origins find (i + 1) before (line_of (get_or lines i d).now)) (λ after. sections_from origins find (i + 1 + 1) after (left lines (i + 1))) ≡ whole
  turn = sym (sections-cons origins find (i + 1) before (get_or lines i d).now (left lines (i + 1))) ∙ ap (sections_from origins find (i + 1) before) (sym (left-more lines i d below)) ∙ so_far

  pub sections_goes_on : (after : Sections) → with_line origins find (i + 1) before (line_of (get_or lines i d).now) ≡ Ok after
      → sections_from origins find (i + 1 + 1) after (left lines (i + 1)) ≡ whole
  sections_goes_on after h = rw h at turn

  pub sections_fails : (fault : Fault AsmKind) → Stops (kind_of fault) (with_line origins find (i + 1) before (line_of (get_or lines i d).now)) → Stops (fault_of (fault_on (i + 1) fault)) whole
  sections_fails fault h = rw turn at (stops_at (i + 1) fault _ (λ after. sections_from origins find (i + 1 + 1) after (left lines (i + 1))) h)

pub sections_end : (origins : Origins) (find : List ℕ → Option Place) (lines : List (Bor (List ℕ))) (i n : ℕ) (before : Sections) → length lines ≤ i
    → sections_from origins find n before (left lines i) ≡ Ok before
sections_end origins find lines i n before h = rw (left-all lines i h) (sections-nil origins find n before)

-- ---- the whole

-- labels that are placed as they are defined
pub image_is : (all : List (List ℕ)) (extent : Extent) (origins : Origins) (find : List ℕ → Option Place) → extent ≡ extent_of nothing_yet all → origins ≡ origins_of extent
    → ((name : List ℕ) → find name ≡ found 1 nothing_yet all name) → image_from origins find all ≡ image_in all
unfolding image_in
image_is all extent origins find e o f =
    let same : find ≡ found 1 nothing_yet all = fun_ext f in
    rw (o, e, same) refl

-- there are no more lines than bytes
one-count : (x : List ℕ) → length (lines_of_parts (x ∷ [])) ≤ 1
one-count x = elim (cases_Bool (length x == 0)) [ inl e ↦ rw e (omega arith) | inr e ↦ rw e (omega arith) ]

onto-count : (b : ℕ) (parts : List (List ℕ)) → length (lines_of_parts (onto_first b parts)) ≤ 1 + length (lines_of_parts parts)
onto-count b [] = omega (arith, one-count (b ∷ []))
onto-count b (x ∷ []) = omega (arith, one-count (b ∷ x))
onto-count b (x ∷ y ∷ more) = omega arith

cons-count : (parts : List (List ℕ)) → length (lines_of_parts ([] ∷ parts)) ≤ 1 + length (lines_of_parts parts)
cons-count [] = omega (arith, one-count [])
cons-count (x ∷ more) = omega arith

either-count : (b : ℕ) (splits : Bool) (parts : List (List ℕ)) → length (lines_of_parts (if splits then [] ∷ parts else onto_first b parts)) ≤ 1 + length (lines_of_parts parts)
either-count b true parts = cons-count parts
either-count b false parts = onto-count b parts

parts-count : (p : ℕ → Bool) (bs : List ℕ) → length (lines_of_parts (slice_split p bs)) ≤ length bs
parts-count p [] = omega arith
parts-count p (b ∷ bs) =
    let more = either-count b (p b) (slice_split p bs) in
    let rest = parts-count p bs in
    omega (arith, more, rest)

pub lines-count : (text : List ℕ) → length (lines text) ≤ length text
lines-count text = parts-count (λ b. b == 10) text
