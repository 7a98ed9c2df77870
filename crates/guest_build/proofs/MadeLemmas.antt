-- What holds of the sections that a text makes.
use Rattle.std.proofs.Common.{◌≡◌, ◌≤◌, ◌<◌, ◌⊎◌, inl, inr, ℕ, ◌+◌, ◌%◌, ◌^◌, false, List, [], ◌∷◌, ◌++◌, length, codes, Option, Some, None, Ok, refl, sym, ap, subst, ◌∙◌, append-nil, length-append, arith}
use Rattle.std.specs.Prelude.{unwrap_or}
use Rattle.std.specs.Str.{bytes_eq}
use Rattle.std.specs.Str.Lines.{lines}
use Rattle.std.proofs.lemmas.Bool.{cases_Bool}
use Rattle.std.proofs.lemmas.Bool.Decides.{nat_tests}
use Rattle.std.proofs.lemmas.List.Elements.{All-nil, All-push, All-weaker}
use Rattle.std.proofs.lemmas.List.Quantifiers.{all_pairs_push}
use Rattle.base_reloc.specs.Sites.{width_of}
use Rattle.guest_build.specs.Assembled.{here_in, sections_from}
use Rattle.guest_build.specs.Codes.{offset_of, bytes_at}
use Rattle.guest_build.specs.Layout.{Content, Sections, no_sections, content_in, content_with, text_with, data_with, sections_with, layout_of, is_large}
use Rattle.guest_build.specs.Lines.{line_of}
use Rattle.guest_build.specs.Places.{filled as filled_by, headers_size, text_at, data_at, is_base, is_subsystem, first, settings_with, base_in, subsystem_in, grown, extent_of, nothing_yet, place_in, labelled, found, origins_of, at_origin}
use Rattle.guest_build.specs.Relocations.{table_of, table_behind}
use Rattle.guest_build.specs.Read.{IsMadeOf, kind_read}
use Rattle.guest_build.specs.declared.number.Number.{Number}
use Rattle.guest_build.specs.declared.places.Extent.{Extent}
use Rattle.guest_build.specs.declared.places.Origins.{Origins}
use Rattle.guest_build.specs.declared.places.Place.{Place}
use Rattle.guest_build.specs.declared.places.Section.{Section}
use Rattle.guest_build.specs.declared.places.Section.TheVariants as sections
use Rattle.guest_build.specs.declared.places.Settings.{Settings}
use Rattle.guest_build.specs.declared.relocation.Site.{Site}
use Rattle.guest_build.specs.declared.relocation.SiteKind.{SiteKind}
use Rattle.guest_build.specs.declared.statement.Statement.{Statement}
use Rattle.guest_build.specs.declared.statement.Statement.TheVariants as statements
use Rattle.guest_build.proofs.MadeNumbers.{BaseFits, line_fits}
use Rattle.guest_build.proofs.MadeSizes.{site_is}
use Rattle.guest_build.proofs.MadeSteps.{one_line, lasts, Continues, continues, Agrees, filled-is, agrees-more, agree}
use Rattle.guest_build.proofs.Sound.{AreIn, end_of, IsSound, IsLaidOut, filled}

-- ---- sites stay in their section, ascending and apart

wider : (len more : ℕ) (sites : List Site) → AreIn len sites → AreIn (len + more) sites
wider len more sites h = record {
  inside = All-weaker (λ (site : Site). end_of site ≤ len) (λ (site : Site). end_of site ≤ len + more) (λ site k. omega (arith, k)) sites h.inside;
  ascending = h.ascending;
}

one_more : (len : ℕ) (kind : SiteKind) (sites : List Site) → AreIn len sites → AreIn (len + width_of (kind_read kind)) (sites ++ record { at = len; kind = kind } ∷ [])
one_more len kind sites h =
    let wide = wider len (width_of (kind_read kind)) sites h in record {
      inside = All-push (λ (site : Site). end_of site ≤ len + width_of (kind_read kind)) sites (record { at = len; kind = kind }) wide.inside (omega arith);
      ascending = all_pairs_push (λ (one other : Site). end_of one ≤ other.at) sites (record { at = len; kind = kind }) h.ascending h.inside;
    }

module _ (origins : Origins) (find : List ℕ → Option Place) (here : ℕ) (statement : Statement) (bytes : List ℕ) (is : bytes_at origins find here statement ≡ Ok bytes) where
  content_more : (content : Content) → AreIn (length content.bytes) content.sites → AreIn (length (content_with content statement bytes).bytes) (content_with content statement bytes).sites
  unfolding content_with
  content_more content h =
      rw (length-append content.bytes bytes) (elim (site_is origins find here (length content.bytes) statement bytes is) [
        | inl none ↦ rw (none.1, append-nil) (wider (length content.bytes) (length bytes) content.sites h)
        | inr one ↦ rw (one.1.1, ← one.1.2) (one_more (length content.bytes) one.1.0 content.sites h)
      ])

  text_more : (section : Section) (content : Content) → AreIn (length content.bytes) content.sites → AreIn (length (text_with section statement bytes content).bytes) (text_with section statement bytes content).sites
  text_more sections.Text content h = content_more content h
  text_more sections.Data content h = h

  data_more : (section : Section) (content : Content) → AreIn (length content.bytes) content.sites → AreIn (length (data_with section statement bytes content).bytes) (data_with section statement bytes content).sites
  data_more sections.Text content h = h
  data_more sections.Data content h = content_more content h

-- ---- settings stay in their ranges

record AreSettings (settings : Settings) : Type 0 where
  base_fits : base_in settings < 2 ^ 64
  base_pages : base_in settings % 4096 ≡ 0
  subsystem : (10 ≤ subsystem_in settings) × (subsystem_in settings ≤ 12)

first_base : (before : Option ℕ) (n : Number) → n.size < 2 ^ 64 → unwrap_or before 0 < 2 ^ 64 → unwrap_or before 0 % 4096 ≡ 0
    → (unwrap_or (first (is_base n) n before) 0 < 2 ^ 64) × (unwrap_or (first (is_base n) n before) 0 % 4096 ≡ 0)
first_base (Some base) n fits low pages = (low, pages)
first_base None n fits low pages =
    elim (cases_Bool (is_base n)) [
      | inl good ↦ (rw good fits, rw good (grind (arith, nat_tests, good)))
      | inr bad ↦ (rw bad low, rw bad refl)
    ]

first_subsystem : (before : Option ℕ) (n : Number) → (10 ≤ unwrap_or before 10) × (unwrap_or before 10 ≤ 12)
    → (10 ≤ unwrap_or (first (is_subsystem n) n before) 10) × (unwrap_or (first (is_subsystem n) n before) 10 ≤ 12)
first_subsystem (Some subsystem) n h = h
first_subsystem None n h =
    elim (cases_Bool (is_subsystem n)) [
      | inl good ↦ (rw good (grind (arith, nat_tests, good)), rw good (grind (arith, nat_tests, good)))
      | inr bad ↦ rw bad h
    ]

settings-more : (settings : Settings) (statement : Statement) → BaseFits statement → AreSettings settings → AreSettings (settings_with settings statement)
unfolding settings_with
settings-more settings (statements.Base n) fits h =
    let base = first_base settings.base n fits h.base_fits h.base_pages in record { base_fits = base.0; base_pages = base.1; subsystem = h.subsystem }
settings-more settings (statements.Subsystem n) fits h = record { base_fits = h.base_fits; base_pages = h.base_pages; subsystem = first_subsystem settings.subsystem n h.subsystem }
settings-more settings (statements.Alignment n) fits h = record { base_fits = h.base_fits; base_pages = h.base_pages; subsystem = h.subsystem }
settings-more settings statement fits h = h

-- ---- what each line keeps

record IsFine (made : Sections) : Type 0 where
  small : is_large made ≡ false
  settings : AreSettings made.settings
  text_sites : AreIn (length made.in_text.bytes) made.in_text.sites
  data_sites : AreIn (length made.in_data.bytes) made.in_data.sites

nothing_in : AreIn 0 []
nothing_in = record { inside = All-nil (λ (site : Site). end_of site ≤ 0); ascending = λ i j d below within. absurd (omega arith) }

fine-nothing : IsFine no_sections
unfolding is_large layout_of headers_size text_at data_at table_of table_behind
fine-nothing = record {
  small = refl;
  settings = record { base_fits = omega arith; base_pages = refl; subsystem = (omega arith, omega arith) };
  text_sites = nothing_in;
  data_sites = nothing_in;
}

-- the place is the one that stands there, or is found among others
pub labelled-is : (place : Place) (label : Option (List ℕ)) (name : List ℕ) (others : Option Place) → (labelled place label name others ≡ Some place) ⊎ (labelled place label name others ≡ others)
labelled-is place None name others = inr refl
labelled-is place (Some label) name others =
    elim (cases_Bool (bytes_eq label name)) [
      | inl same ↦ inl (rw same refl)
      | inr differs ↦ inr (rw differs refl)
    ]

module _ (origins : Origins) (find : List ℕ → Option Place) where
  fine-more : (before : Sections) (line bytes : List ℕ) → IsFine before → bytes_at origins find (here_in origins before) (line_of line).statement ≡ Ok bytes
      → is_large (sections_with before (line_of line).statement bytes) ≡ false → IsFine (sections_with before (line_of line).statement bytes)
  unfolding sections_with
  fine-more before line bytes h is small = record {
    small = small;
    settings = settings-more before.settings (line_of line).statement (line_fits line) h.settings;
    text_sites = text_more origins find (here_in origins before) (line_of line).statement bytes is before.section before.in_text h.text_sites;
    data_sites = data_more origins find (here_in origins before) (line_of line).statement bytes is before.section before.in_data h.data_sites;
  }

  fine : (n : ℕ) (lines : List (List ℕ)) (extent : Extent) (before all : Sections) → IsFine before → sections_from origins find n before lines ≡ Ok all → IsFine all
  fine = lasts origins find (λ extent made. IsFine made) (λ extent before line bytes h is small. fine-more before line bytes h is small)

  -- ---- labels

  here_within : (extent : Extent) (before all : Sections) (section : Section) → Agrees extent before → Continues before all → filled_by extent section ≤ length (content_in all section).bytes
  here_within extent before all section h more =
      let behind = more section in
      omega (arith, filled-is extent before section h, ap length behind.1, length-append (content_in before section).bytes behind.0)

  -- A label's place is inside what its section holds in the end.
  found_within : (m n : ℕ) (lines : List (List ℕ)) (extent : Extent) (before all : Sections) (name : List ℕ) (place : Place) → Agrees extent before
      → sections_from origins find n before lines ≡ Ok all → found m extent lines name ≡ Some place → place.offset ≤ length (content_in all place.section).bytes
  unfolding found
  found_within m n [] extent before all name place h is at = absurd cc
  found_within m n (line ∷ lines) extent before all name place h is at =
      let first = one_line origins find n line lines before all is in
      elim (labelled-is (place_in m extent) (line_of line).label name (found (m + 1) (grown extent (line_of line).statement) lines name)) [
        | inl here ↦
            let same : place_in m extent ≡ place = cc in
            subst (λ (p : Place). p.offset ≤ length (content_in all p.section).bytes) same (here_within extent before all extent.section h (continues origins find n (line ∷ lines) before all is))
        | inr there ↦
            found_within (m + 1) (n + 1) lines (grown extent (line_of line).statement) (sections_with before (line_of line).statement first.0) all name place
            (agrees-more origins find (here_in origins before) (line_of line).statement first.0 first.1 extent before h) first.3 (sym there ∙ at)
      ]

-- ---- the whole

-- where the sections begin
abbrev origins_in : Sections → Origins
origins_in all = record { base = base_in all.settings; text_from = (layout_of all).text_from; data_from = (layout_of all).data_from }

pub origins_are : (extent : Extent) (all : Sections) → Agrees extent all → filled all < 2 ^ 63 → origins_of extent ≡ origins_in all
unfolding origins_of layout_of
origins_are extent all h small =
    let text : extent.text_len ≡ length all.in_text.bytes = omega (arith, h.text_len, small) in
    let cells : extent.data_len ≡ length all.in_data.bytes = omega (arith, h.data_len, small) in
    rw (h.settings, text, cells, h.moved) refl

offset_is : (origins : Origins) (found : Option Place) (entry : ℕ) → offset_of origins found ≡ Ok entry → (place : Place) × (found ≡ Some place) × (at_origin origins place.section place.offset ≡ entry)
offset_is origins None entry h = absurd cc
offset_is origins (Some place) entry h = (place, refl, cc)

within : (all : Sections) (section : Section) (offset : ℕ) → IsLaidOut all → offset ≤ length (content_in all section).bytes → at_origin (origins_in all) section offset ≤ (layout_of all).size
within all sections.Text offset laid h = omega (arith, laid.data_behind, laid.reloc_behind, laid.end)
within all sections.Data offset laid h = omega (arith, laid.reloc_behind, laid.end)

small_is : (all : Sections) → is_large all ≡ false → (layout_of all).size ≤ 2 ^ 20
unfolding is_large
small_is all h = grind (arith, nat_tests, h)

pub nothing-agrees : Agrees nothing_yet no_sections
nothing-agrees = record { section = refl; text_len = refl; data_len = refl; moved = refl; settings = refl }

pub sound : (text : List ℕ) (entry : ℕ) (all : Sections) → IsMadeOf text entry all → filled all < 2 ^ 63 → ((layout_of all).size ≤ 2 ^ 20 → IsLaidOut all) → IsLaidOut all × IsSound entry all
sound text entry all made short laid =
    let extent = extent_of nothing_yet (lines text) in
    let find = found 1 nothing_yet (lines text) in
    let agrees = agree (origins_of extent) find 1 (lines text) nothing_yet no_sections all nothing-agrees made.sections in
    let good = fine (origins_of extent) find 1 (lines text) nothing_yet no_sections all fine-nothing made.sections in
    let layout = laid (small_is all good.small) in
    let start = offset_is (origins_of extent) (find (codes "start")) entry made.start in
    let inside = found_within (origins_of extent) find 1 1 (lines text) nothing_yet no_sections all (codes "start") start.0 nothing-agrees made.sections start.1 in
    let at = within all start.0.section start.0.offset layout inside in
    let is : at_origin (origins_in all) start.0.section start.0.offset ≡ entry = ap (λ (o : Origins). at_origin o start.0.section start.0.offset) (sym (origins_are extent all agrees short)) ∙ start.2 in (
      layout,
      record {
        base_fits = good.settings.base_fits;
        base_pages = good.settings.base_pages;
        subsystem = good.settings.subsystem;
        entry_inside = subst (λ (n : ℕ). n ≤ (layout_of all).size) is at;
        text_sites = good.text_sites;
        data_sites = good.data_sites;
      },
    )
