-- Runs over more and more sites.
use Rattle.std.proofs.Common.{◌≡◌, ℕ, ◌+◌, ◌-◌, ◌%◌, List, [], ◌++◌, None, false, length, take, drop, sym, ap, subst, ◌∙◌, append_assoc, append-nil, zero-add, take-append-drop, length-append, arith}
use Rattle.std.proofs.lemmas.List.{take_all, take_rest, take-append-le, map-append}
use Rattle.std.specs.Prelude.{nat_lt, Option, Result, Ok, Err}
use Rattle.guest_build.specs.Assembled.{here_in, sections_put}
use Rattle.guest_build.specs.Codes.{bytes_at}
use Rattle.uh_base.specs.Answers.{◌>>=◌}
use Rattle.guest_build.specs.Layout.{Content, Sections, layout_of, is_large, site_at, content_with, text_with, data_with, sections_with}
use Rattle.guest_build.specs.Places.{round_up, sum, alignment_in}
use Rattle.guest_build.specs.Measures.{IsRun, IsMeasure, size_with}
use Rattle.guest_build.specs.declared.fault.AsmKind.{AsmKind}
use Rattle.guest_build.specs.declared.places.Origins.{Origins}
use Rattle.guest_build.specs.declared.places.Place.{Place}
use Rattle.guest_build.specs.declared.places.Section.{Section}
use Rattle.guest_build.specs.declared.places.Section.TheVariants as sections
use Rattle.guest_build.specs.declared.statement.Statement.{Statement}
use Rattle.guest_build.specs.Relocations.{place_of, placed, padding, table_behind, table_of}
use Rattle.guest_build.specs.declared.measure.Measure.{Measure}
use Rattle.guest_build.specs.declared.relocation.Run.{Run}
use Rattle.guest_build.specs.declared.relocation.Site.{Site}
use Rattle.guest_build.proofs.TableLemmas.{behind_all}

-- what follows is as long behind the one as behind the other
abbrev pub Goes : Run → Run → List Site → Type 0
Goes next run more = (others : List Site) → (next.len + length (table_behind next.page next.odd others)) % 18446744073709551616 ≡ (run.len + length (table_behind run.page run.odd (more ++ others))) % 18446744073709551616

pub starts : (run : Run) → run ≡ record { page = None; odd = false; len = 0 } → IsRun run []
starts run e = λ others. rw e (ap (λ n. n % 18446744073709551616) (zero-add (length (table_behind None false others))))

pub goes : (next run : Run) (sites more : List Site) → Goes next run more → IsRun run sites → IsRun next (sites ++ more)
goes next run sites more h r = λ others. h others ∙ r (more ++ others) ∙ ap (λ xs. length (table_behind None false xs) % 18446744073709551616) (sym (append_assoc sites more others))

-- the same list, said otherwise
pub same_run : (run : Run) (sites others : List Site) → sites ≡ others → IsRun run sites → IsRun run others
same_run run sites others e r = λ more. r more ∙ ap (λ xs. length (table_behind None false (xs ++ more)) % 18446744073709551616) e

pub anew : (first second third : Run) (a b : List Site) → IsRun first [] → Goes second first a → Goes third second b → IsRun third (a ++ b)
anew first second third a b s g h = goes third second a b h (goes second first [] a g s)

parts : (from : ℕ) (sites : List Site) (n : ℕ) → placed from (take n sites) ++ placed from (drop n sites) ≡ placed from sites
parts from sites n = sym (map-append (place_of from) (take n sites) (drop n sites)) ∙ ap (placed from) (take-append-drop n sites)

pub more_data : (m : Measure) (next : Run) (in_text in_data : List Site) (data_from : ℕ) → IsMeasure m in_text in_data → m.text_count ≡ length in_text → m.data_from ≡ data_from
    → Goes next m.run (placed data_from (take (length in_data - m.data_count) (drop m.data_count in_data))) → IsRun next (placed m.text_from in_text ++ placed data_from in_data)
more_data m next in_text in_data data_from h t e g =
    let rest = take_rest in_data m.data_count in
    let all : take m.text_count in_text ≡ in_text = take_all m.text_count in_text (omega arith) in
    let before : IsRun m.run (placed m.text_from in_text ++ placed data_from (take m.data_count in_data)) = rw (e, all) at h.run in
    let on = rw rest at g in
    same_run next _ _ (append_assoc (placed m.text_from in_text) (placed data_from (take m.data_count in_data)) (placed data_from (drop m.data_count in_data)) ∙ ap (λ xs. placed m.text_from in_text ++ xs) (parts data_from in_data m.data_count))
    (goes next m.run _ _ on before)

pub more_text : (m : Measure) (middle next : Run) (in_text in_data : List Site) (text_from data_from : ℕ) → IsMeasure m in_text in_data → m.data_count ≡ 0 → m.text_from ≡ text_from
    → Goes middle m.run (placed text_from (take (length in_text - m.text_count) (drop m.text_count in_text))) → Goes next middle (placed data_from in_data)
    → IsRun next (placed text_from in_text ++ placed data_from in_data)
more_text m middle next in_text in_data text_from data_from h none e g k =
    let rest = take_rest in_text m.text_count in
    let before : IsRun m.run (placed text_from (take m.text_count in_text) ++ []) = rw (e, none) at h.run in
    let start = same_run m.run _ _ (append-nil (placed text_from (take m.text_count in_text))) before in
    let on = rw rest at g in
    let all = same_run middle _ _ (parts text_from in_text m.text_count) (goes middle m.run _ _ on start) in
    goes next middle (placed text_from in_text) (placed data_from in_data) k all

-- further sites behind those that it has
pub kept : (m : Measure) (in_text in_data more_text more_data : List Site) → IsMeasure m in_text in_data → IsMeasure m (in_text ++ more_text) (in_data ++ more_data)
kept m in_text in_data more_text more_data h = record {
  text = omega (arith, h.text, length-append in_text more_text);
  cells = omega (arith, h.cells, length-append in_data more_data);
  run = rw (take-append-le m.text_count in_text more_text h.text, take-append-le m.data_count in_data more_data h.cells) h.run;
}

-- how long the whole table is
pub whole : (run : Run) (sites : List Site) → IsRun run sites → (run.len + length (padding run.odd)) % 18446744073709551616 ≡ length (table_of sites) % 18446744073709551616
unfolding table_of
whole run sites h = ap (λ xs. (run.len + length xs) % 18446744073709551616) (sym (behind_all run.page run.odd)) ∙ h [] ∙ ap (λ xs. length (table_behind None false xs) % 18446744073709551616) (append-nil sites)

-- ---- of an image

sum-whole : (a n : ℕ) → sum a (n % 18446744073709551616) ≡ sum a n
sum-whole a n = omega arith

pub large_is : (all : Sections) (run : Run) (len : ℕ) → IsRun run (placed (layout_of all).text_from all.in_text.sites ++ placed (layout_of all).data_from all.in_data.sites)
    → len ≡ (run.len + length (padding run.odd)) % 18446744073709551616 → nat_lt 1048576 (size_with all len) ≡ is_large all
unfolding is_large layout_of
large_is all run len h e =
    let n = e ∙ whole run _ h in
    ap (λ s. nat_lt 1048576 (round_up (alignment_in all.settings) s)) (ap (sum (layout_of all).reloc_from) n ∙ sum-whole (layout_of all).reloc_from (length (layout_of all).table))

with_section : (m : Measure) (section : Section) (statement : Statement) (bytes : List ℕ) (in_text in_data : Content) → IsMeasure m in_text.sites in_data.sites
    → IsMeasure m (text_with section statement bytes in_text).sites (data_with section statement bytes in_data).sites
unfolding content_with
with_section m sections.Text statement bytes in_text in_data h =
    rw append-nil at (kept m in_text.sites in_data.sites (site_at (length in_text.bytes) statement) [] h)
with_section m sections.Data statement bytes in_text in_data h =
    rw append-nil at (kept m in_text.sites in_data.sites [] (site_at (length in_data.bytes) statement) h)

-- a statement more, whose site the measure hasn't gone over yet
module _ (m : Measure) (before after : Sections) (statement : Statement) (has : IsMeasure m before.in_text.sites before.in_data.sites) where
  made : (r : Result (List ℕ) AsmKind) → (r >>= λ bytes. Ok (sections_with before statement bytes)) ≡ Ok after → IsMeasure m after.in_text.sites after.in_data.sites
  unfolding sections_with
  made (Err kind) h = absurd cc
  made (Ok bytes) h =
      let e : sections_with before statement bytes ≡ after = cc in
      subst (λ (s : Sections). IsMeasure m s.in_text.sites s.in_data.sites) e (with_section m before.section statement bytes before.in_text before.in_data has)

  pub put_keeps : (origins : Origins) (find : List ℕ → Option Place) → sections_put origins find before statement ≡ Ok after → IsMeasure m after.in_text.sites after.in_data.sites
  put_keeps origins find h = made (bytes_at origins find (here_in origins before) statement) h
