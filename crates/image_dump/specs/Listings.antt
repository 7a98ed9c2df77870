-- The instructions of an image file's sections, in lines.
use Rattle.std.specs.Prelude.{ℕ, ◌≡◌, ◌<◌, ◌+◌, true, All, List, [], ◌∷◌, ◌++◌, slice_range, Result, Ok, Err, if◌then◌else◌}
use Rattle.std.specs.List.{flat_map}
use Rattle.pe_image.specs.declared.fault.PeFault.{PeFault}
use Rattle.pe_image.specs.declared.image.Section.{Section}
use Rattle.pe_image.specs.ImageOf.{Fields, image_of}
use Rattle.record_text.specs.declared.image_line.ImageLine.{ImageLine}
use Rattle.record_text.specs.declared.image_line.ImageLine.TheVariants as lines
use Rattle.image_dump.specs.Code.{lines_from, bytes_in}
use Rattle.image_dump.specs.Reports.{Report, end_report, behind, refused, pe_fault, is_executed, placed}

-- the bytes of a section
abbrev pub code_of : List ℕ → Section → List ℕ
code_of placed section = slice_range placed section.at (section.at + section.len)

-- a section that is executed is listed under its number
unfoldable pub listed : List ℕ → ℕ → Section → List ImageLine
listed placed number section = if is_executed section then lines.Listed number ∷ lines_from section.at 0 (code_of placed section) else []

-- sections that are numbered from a number on
unfoldable pub all_listed : List ℕ → ℕ → List Section → List ImageLine
all_listed placed number [] = []
all_listed placed number (section ∷ sections) = listed placed number section ++ all_listed placed (number + 1) sections

-- The words of a section's listing, written out, are the bytes of the section.
abbrev pub SectionWordsAreBytes : Type 0
SectionWordsAreBytes = (placed : List ℕ) (number : ℕ) (section : Section) → is_executed section ≡ true → All (λ b. b < 256) (code_of placed section)
    → flat_map bytes_in (listed placed number section) ≡ code_of placed section

abbrev pub list_by : List ℕ → Result Fields PeFault → Report
list_by file (Ok image) = behind (all_listed (placed image file) 0 image.sections) end_report
list_by file (Err fault) = refused (pe_fault fault)

-- the instructions of a file's sections, or why the file is refused; base relocations aren't read
unfoldable pub list_report : List ℕ → Report
list_report file = list_by file (image_of file)
