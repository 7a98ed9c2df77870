-- How long the table of base relocations is, kept from one line to the next.
use Rattle.std.specs.Prelude.{◌≡◌, ◌≤◌, ℕ, ◌+◌, ◌%◌, ◌^◌, List, ◌++◌, length, take, None, false}
use Rattle.guest_build.specs.Places.{round_up, sum, alignment_in}
use Rattle.guest_build.specs.Relocations.{placed, table_behind}
use Rattle.guest_build.specs.Layout.{Sections, layout_of}
use Rattle.guest_build.specs.declared.relocation.Run.{Run}
use Rattle.guest_build.specs.declared.relocation.Site.{Site}
use Rattle.guest_build.specs.declared.measure.Measure.{Measure}

-- the run has gone over these sites
abbrev pub IsRun : Run → List Site → Type 0
IsRun run sites = (others : List Site) → (run.len + length (table_behind run.page run.odd others)) % 2 ^ 64 ≡ length (table_behind None false (sites ++ others)) % 2 ^ 64

-- The measure has gone over so many sites of the two sections.
pub record IsMeasure (measure : Measure) (in_text in_data : List Site) : Type 0 where
  pub text : measure.text_count ≤ length in_text
  pub cells : measure.data_count ≤ length in_data
  pub run : IsRun measure.run (placed measure.text_from (take measure.text_count in_text) ++ placed measure.data_from (take measure.data_count in_data))

-- SizeOfImage with a table of so many bytes
abbrev pub size_with : Sections → ℕ → ℕ
size_with all table_len = round_up (alignment_in all.settings) (sum (layout_of all).reloc_from table_len)
