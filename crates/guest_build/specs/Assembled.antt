-- The image of a text, or the first thing that is wrong with it.
use Rattle.std.specs.Prelude.{ℕ, ◌+◌, ◌||◌, Bool, false, List, [], ◌∷◌, length, codes, Option, Some, None, Result, Ok, Err, nat_lt, if◌then◌else◌}
use Rattle.std.specs.Str.Lines.{lines}
use Rattle.uh_base.specs.Answers.{◌>>=◌}
use Rattle.guest_build.specs.Faults.{Place as FaultPlace, on_line}
use Rattle.guest_build.specs.Lines.{line_of}
use Rattle.guest_build.specs.Places.{is_set, found, extent_of, nothing_yet, origins_of, at_origin}
use Rattle.guest_build.specs.Codes.{offset_of, bytes_at}
use Rattle.guest_build.specs.Layout.{Content, Sections, no_sections, content_with, sections_with, content_in, is_large}
use Rattle.guest_build.specs.Image.{image_of}
use Rattle.guest_build.specs.declared.fault.AsmKind.{AsmKind}
use Rattle.guest_build.specs.declared.fault.AsmKind.TheVariants as kinds
use Rattle.guest_build.specs.declared.statement.Statement.{Statement}
use Rattle.guest_build.specs.declared.statement.Statement.TheVariants as statements
use Rattle.guest_build.specs.declared.statement.Line.{Line}
use Rattle.guest_build.specs.declared.places.Place.{Place}
use Rattle.guest_build.specs.declared.places.Origins.{Origins}

-- ---- one line

-- the line has a form
abbrev pub formed : Statement → Result (Unit {0}) AsmKind
formed (statements.Fault kind) = Err kind
formed statement = Ok tt

-- a label stands on a line before the n-th
abbrev pub is_before : ℕ → Option Place → Bool
is_before n None = false
is_before n (Some place) = nat_lt place.line n

abbrev pub is_repeated : (List ℕ → Option Place) → ℕ → Option (List ℕ) → Bool
is_repeated find n None = false
is_repeated find n (Some label) = is_before n (find label)

-- neither the label nor the setting stands on an earlier line
unfoldable pub once : (List ℕ → Option Place) → ℕ → Sections → Line → Result (Unit {0}) AsmKind
once find n before line = if is_repeated find n line.label || is_set before.settings line.statement then Err kinds.Twice else Ok tt

-- the image is small enough
unfoldable pub not_large : Sections → Result Sections AsmKind
not_large all = if is_large all then Err kinds.Size else Ok all

-- where the next line stands in the image
abbrev pub here_in : Origins → Sections → ℕ
here_in origins before = at_origin origins before.section (length (content_in before before.section).bytes)

-- a section with a statement more, and the sections with one more
abbrev pub content_put : Origins → (List ℕ → Option Place) → ℕ → Content → Statement → Result Content AsmKind
content_put origins find here before statement = do
  bytes ← bytes_at origins find here statement
  Ok (content_with before statement bytes)

abbrev pub sections_put : Origins → (List ℕ → Option Place) → Sections → Statement → Result Sections AsmKind
sections_put origins find before statement = do
  bytes ← bytes_at origins find (here_in origins before) statement
  Ok (sections_with before statement bytes)

-- the sections behind the n-th line
unfoldable pub with_line : Origins → (List ℕ → Option Place) → ℕ → Sections → Line → Result Sections AsmKind
with_line origins find n before line = do
  _ ← formed line.statement
  _ ← once find n before line
  all ← sections_put origins find before line.statement
  not_large all

-- ---- all lines

-- the sections behind lines that are numbered from n on
unfoldable pub sections_from : Origins → (List ℕ → Option Place) → ℕ → Sections → List (List ℕ) → Result Sections FaultPlace
sections_from origins find n before [] = Ok before
sections_from origins find n before (line ∷ others) =
    on_line n (with_line origins find n before (line_of line)) (λ after. sections_from origins find (n + 1) after others)

abbrev pub finished : ℕ → Result Sections FaultPlace → Result (List ℕ) FaultPlace
finished entry (Ok all) = Ok (image_of entry all)
finished entry (Err place) = Err place

-- the image of lines whose labels are placed; `start` is the entry
abbrev pub image_from : Origins → (List ℕ → Option Place) → List (List ℕ) → Result (List ℕ) FaultPlace
image_from origins find all =
    on_line 0 (offset_of origins (find (codes "start"))) (λ entry. finished entry (sections_from origins find 1 no_sections all))

-- The image of lines: first all labels are placed, and then each line is judged and encoded.
unfoldable pub image_in : List (List ℕ) → Result (List ℕ) FaultPlace
image_in all = image_from (origins_of (extent_of nothing_yet all)) (found 1 nothing_yet all) all

-- the image of a text, whose lines end with LF or CR LF
unfoldable pub assembled : List ℕ → Result (List ℕ) FaultPlace
assembled text = image_in (lines text)
