-- The two passes over the lines agree, and what each line keeps.
use Rattle.std.proofs.Common.{◌≡◌, inl, inr, ℕ, ◌+◌, ◌%◌, ◌^◌, Bool, true, false, not, ◌&&◌, ◌||◌, List, [], ◌∷◌, ◌++◌, length, Option, Result, Ok, Err, refl, sym, ap, subst, ◌∙◌, append_assoc, append-nil, length-append, arith}
use Rattle.std.specs.Prelude.{◌==◌, if◌then◌else◌}
use Rattle.std.proofs.Math.Dec.{eqb-suc-zero}
use Rattle.std.proofs.lemmas.Bool.{cases_Bool}
use Rattle.guest_build.specs.Assembled.{is_repeated, once, here_in, sections_put, not_large, with_line, formed, sections_from}
use Rattle.guest_build.specs.Codes.{bytes_at}
use Rattle.guest_build.specs.Faults.{Place as FaultPlace, on_line}
use Rattle.guest_build.specs.Layout.{Content, Sections, content_with, text_with, data_with, sections_with, site_at, content_in, has_sites, is_large}
use Rattle.guest_build.specs.Lines.{line_of}
use Rattle.guest_build.specs.Places.{is_set, filled, nothing_yet, size_of, is_moved, section_behind, settings_with, more_text, more_data, grown, extent_of}
use Rattle.guest_build.specs.declared.fault.AsmKind.{AsmKind}
use Rattle.guest_build.specs.declared.fault.AsmKind.TheVariants as kinds
use Rattle.guest_build.specs.declared.places.Extent.{Extent}
use Rattle.guest_build.specs.declared.places.Origins.{Origins}
use Rattle.guest_build.specs.declared.places.Place.{Place}
use Rattle.guest_build.specs.declared.places.Section.{Section}
use Rattle.guest_build.specs.declared.places.Section.TheVariants as sections
use Rattle.guest_build.specs.declared.relocation.Site.{Site}
use Rattle.guest_build.specs.declared.statement.Line.{Line}
use Rattle.guest_build.specs.declared.statement.Statement.{Statement}
use Rattle.guest_build.proofs.MadeSizes.{steps, size_is, site_is}

-- ---- what holds behind every line

pub line_goes : {A B : Type 0} (n : ℕ) (r : Result A AsmKind) (f : A → Result B FaultPlace) (y : B) → on_line n r f ≡ Ok y → (x : A) × (r ≡ Ok x) × (f x ≡ Ok y)
line_goes n (Ok x) f y h = (x, refl, h)
line_goes n (Err kind) f y h = absurd cc

allowed : {A : Type 0} (one other : Bool) (kind : AsmKind) (x y : A) → (if one || other then Err kind else Ok x) ≡ Ok y → one ≡ false
allowed true other kind x y h = absurd cc
allowed false other kind x y h = refl

module _ (origins : Origins) (find : List ℕ → Option Place) where
  -- what a line makes, whose label stands on no earlier line
  line_makes : (n : ℕ) (before after : Sections) (line : Line) → with_line origins find n before line ≡ Ok after
      → (bytes : List ℕ) × (bytes_at origins find (here_in origins before) line.statement ≡ Ok bytes) × (sections_with before line.statement bytes ≡ after) × (is_large after ≡ false) × (is_repeated find n line.label ≡ false)
  unfolding with_line not_large once
  line_makes n before after line h =
      let a = steps (formed line.statement) _ after h in
      let b = steps (once find n before line) _ after a.2 in
      let d = steps (sections_put origins find before line.statement) not_large after b.2 in
      let e = steps (bytes_at origins find (here_in origins before) line.statement) (λ bytes. Ok (sections_with before line.statement bytes)) d.0 d.1 in
      elim (cases_Bool (is_large d.0)) [
        | inl large ↦ (let k = rw large at d.2 in absurd cc)
        | inr small ↦
            let k = rw small at d.2 in
            let same : d.0 ≡ after = cc in
            let is : sections_with before line.statement e.0 ≡ d.0 = (let q = e.2 in cc) in
            (e.0, e.1, is ∙ same, rw (← same) small, allowed (is_repeated find n line.label) (is_set before.settings line.statement) kinds.Twice tt b.0 b.1)
      ]

  -- what the first of further lines makes
  pub one_line : (n : ℕ) (line : List ℕ) (lines : List (List ℕ)) (before all : Sections) → sections_from origins find n before (line ∷ lines) ≡ Ok all
      → (bytes : List ℕ) × (bytes_at origins find (here_in origins before) (line_of line).statement ≡ Ok bytes) × (is_large (sections_with before (line_of line).statement bytes) ≡ false)
      × (sections_from origins find (n + 1) (sections_with before (line_of line).statement bytes) lines ≡ Ok all) × (is_repeated find n (line_of line).label ≡ false)
  unfolding sections_from
  one_line n line lines before all h =
      let a = line_goes n (with_line origins find n before (line_of line)) (λ after. sections_from origins find (n + 1) after lines) all h in
      let b = line_makes n before a.0 (line_of line) a.1 in
      (b.0, b.1, rw b.2 b.3, rw b.2 a.2, b.4)

  -- What each line keeps of the extent and the sections, all lines keep.
  module _ (P : Extent → Sections → Type 0)
      (keeps : (extent : Extent) (before : Sections) (line bytes : List ℕ) → P extent before → bytes_at origins find (here_in origins before) (line_of line).statement ≡ Ok bytes
      → is_large (sections_with before (line_of line).statement bytes) ≡ false → P (grown extent (line_of line).statement) (sections_with before (line_of line).statement bytes)) where
    pub lasts : (n : ℕ) (lines : List (List ℕ)) (extent : Extent) (before all : Sections) → P extent before → sections_from origins find n before lines ≡ Ok all → P (extent_of extent lines) all
    unfolding sections_from extent_of
    lasts n [] extent before all p h = subst (P extent) (let e : before ≡ all = cc in e) p
    lasts n (line ∷ lines) extent before all p h =
        let a = one_line n line lines before all h in
        lasts (n + 1) lines (grown extent (line_of line).statement) (sections_with before (line_of line).statement a.0) all (keeps extent before line a.0 p a.1 a.2) a.3

-- ---- sections grow at their ends

-- In each section there stands what stood there before, and maybe more behind it.
abbrev pub Continues : Sections → Sections → Type 0
Continues before after = (section : Section) → (more : List ℕ) × ((content_in after section).bytes ≡ (content_in before section).bytes ++ more)

pub continues_itself : (made : Sections) → Continues made made
continues_itself made section = ([], sym (append-nil (content_in made section).bytes))

module _ (before : Sections) (statement : Statement) (bytes : List ℕ) where
  -- the bytes of a statement stand at the end of its section
  pub put_here : (content_in (sections_with before statement bytes) before.section).bytes ≡ (content_in before before.section).bytes ++ bytes
  unfolding sections_with content_with
  put_here =
      elim before.section as (λ s. (content_in (sections_with (record before { section = s }) statement bytes) s).bytes ≡ (content_in before s).bytes ++ bytes) [
        | sections.Text ↦ refl
        | sections.Data ↦ refl
      ]

  text_continues : (section : Section) (content : Content) → (more : List ℕ) × ((text_with section statement bytes content).bytes ≡ content.bytes ++ more)
  unfolding content_with
  text_continues sections.Text content = (bytes, refl)
  text_continues sections.Data content = ([], sym (append-nil content.bytes))

  data_continues : (section : Section) (content : Content) → (more : List ℕ) × ((data_with section statement bytes content).bytes ≡ content.bytes ++ more)
  unfolding content_with
  data_continues sections.Text content = ([], sym (append-nil content.bytes))
  data_continues sections.Data content = (bytes, refl)

  continues_one : Continues before (sections_with before statement bytes)
  unfolding sections_with
  continues_one sections.Text = text_continues before.section before.in_text
  continues_one sections.Data = data_continues before.section before.in_data

  continues-more : (first : Sections) → Continues first before → Continues first (sections_with before statement bytes)
  continues-more first h section =
      let one = h section in
      let other = continues_one section in
      (one.0 ++ other.0, rw (other.1, one.1, append_assoc) refl)

module _ (origins : Origins) (find : List ℕ → Option Place) where
  pub continues : (n : ℕ) (lines : List (List ℕ)) (before all : Sections) → sections_from origins find n before lines ≡ Ok all → Continues before all
  continues n lines before all =
      lasts origins find (λ extent made. Continues before made) (λ extent made line bytes h is small. continues-more made (line_of line).statement bytes before h) n lines nothing_yet before all (continues_itself before)

-- ---- the two passes agree

-- How much lines fill by the first pass is what the second pass makes.
pub record Agrees (extent : Extent) (made : Sections) : Type 0 where
  pub section : extent.section ≡ made.section
  pub text_len : extent.text_len ≡ length made.in_text.bytes % 2 ^ 64
  pub data_len : extent.data_len ≡ length made.in_data.bytes % 2 ^ 64
  pub moved : extent.moved ≡ has_sites made
  pub settings : extent.settings ≡ made.settings

pub filled-is : (extent : Extent) (made : Sections) (section : Section) → Agrees extent made → filled extent section ≡ length (content_in made section).bytes % 2 ^ 64
filled-is extent made sections.Text h = h.text_len
filled-is extent made sections.Data h = h.data_len

text_grows : (section : Section) (statement : Statement) (bytes : List ℕ) (content : Content) (size n : ℕ) → size % 2 ^ 64 ≡ length bytes % 2 ^ 64
    → n ≡ length content.bytes % 2 ^ 64 → more_text section size n ≡ length (text_with section statement bytes content).bytes % 2 ^ 64
unfolding content_with
text_grows sections.Text statement bytes content size n h e = omega (arith, length-append content.bytes bytes)
text_grows sections.Data statement bytes content size n h e = e

data_grows : (section : Section) (statement : Statement) (bytes : List ℕ) (content : Content) (size n : ℕ) → size % 2 ^ 64 ≡ length bytes % 2 ^ 64
    → n ≡ length content.bytes % 2 ^ 64 → more_data section size n ≡ length (data_with section statement bytes content).bytes % 2 ^ 64
unfolding content_with
data_grows sections.Text statement bytes content size n h e = e
data_grows sections.Data statement bytes content size n h e = omega (arith, length-append content.bytes bytes)

-- no sites
abbrev empty : List Site → Bool
empty sites = length sites == 0

empty-append : (one more : List Site) → empty (one ++ more) ≡ empty one && empty more
empty-append [] more = refl
empty-append (x ∷ one) more = rw (eqb-suc-zero (length one), eqb-suc-zero (length (one ++ more))) refl

first_moves : (moved one other : Bool) → not ((one && not moved) && other) ≡ (not (one && other) || moved)
first_moves true true true = refl
first_moves true true false = refl
first_moves true false other = refl
first_moves false true true = refl
first_moves false true false = refl
first_moves false false other = refl

second_moves : (moved one other : Bool) → not (one && (other && not moved)) ≡ (not (one && other) || moved)
second_moves true false other = refl
second_moves false false other = refl
second_moves false true false = refl
second_moves true true true = refl
second_moves true true false = refl
second_moves false true true = refl

module _ (origins : Origins) (find : List ℕ → Option Place) (here : ℕ) (statement : Statement) (bytes : List ℕ) (is : bytes_at origins find here statement ≡ Ok bytes) where
  empty_is : (at : ℕ) → empty (site_at at statement) ≡ not (is_moved statement)
  empty_is at = elim (site_is origins find here at statement bytes is) [
    | inl p ↦ ap empty p.1 ∙ ap not (sym p.0)
    | inr p ↦ ap empty p.1.1 ∙ ap not (sym p.0)
  ]

  sites_grow : (section : Section) (in_text in_data : Content)
      → not (empty (text_with section statement bytes in_text).sites && empty (data_with section statement bytes in_data).sites) ≡ (not (empty in_text.sites && empty in_data.sites) || is_moved statement)
  unfolding content_with
  sites_grow sections.Text in_text in_data =
      rw (empty-append in_text.sites (site_at (length in_text.bytes) statement), empty_is (length in_text.bytes)) (first_moves (is_moved statement) (empty in_text.sites) (empty in_data.sites))
  sites_grow sections.Data in_text in_data =
      rw (empty-append in_data.sites (site_at (length in_data.bytes) statement), empty_is (length in_data.bytes)) (second_moves (is_moved statement) (empty in_text.sites) (empty in_data.sites))

  pub agrees-more : (extent : Extent) (before : Sections) → Agrees extent before → Agrees (grown extent statement) (sections_with before statement bytes)
  unfolding grown sections_with
  agrees-more extent before h =
      let size = size_is origins find here statement bytes is in record {
        section = ap (λ s. section_behind s statement) h.section;
        text_len = rw h.section (text_grows before.section statement bytes before.in_text (size_of statement) extent.text_len size h.text_len);
        data_len = rw h.section (data_grows before.section statement bytes before.in_data (size_of statement) extent.data_len size h.data_len);
        moved = ap (λ m. m || is_moved statement) h.moved ∙ sym (sites_grow before.section before.in_text before.in_data);
        settings = ap (λ s. settings_with s statement) h.settings;
      }

module _ (origins : Origins) (find : List ℕ → Option Place) (n : ℕ) (lines : List (List ℕ)) where
  pub agree : (extent : Extent) (before all : Sections) → Agrees extent before → sections_from origins find n before lines ≡ Ok all → Agrees (extent_of extent lines) all
  agree = lasts origins find Agrees (λ extent before line bytes h is small. agrees-more origins find (here_in origins before) (line_of line).statement bytes is extent before h) n lines
