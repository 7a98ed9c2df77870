-- What an image file holds, in lines: its headers, its sections and its base relocations.
use Rattle.std.specs.Prelude.{ℕ, zero, suc, ◌+◌, ◌/◌, ◌%◌, ◌==◌, Bool, true, false, List, [], ◌∷◌, ◌++◌, map, Option, Some, None, Result, Ok, Err}
use Rattle.std.specs.List.{flat_map}
use Rattle.pe_image.specs.declared.fault.PeFault.{PeFault}
use Rattle.pe_image.specs.declared.fault.PeFault.TheVariants as pe
use Rattle.pe_image.specs.declared.image.Section.{Section}
use Rattle.pe_image.specs.ImageOf.{Fields, image_of}
use Rattle.pe_image.specs.Placed.{in_pages, placed_byte}
use Rattle.base_reloc.specs.declared.fault.RelocFault.{RelocFault}
use Rattle.base_reloc.specs.declared.fault.RelocFault.TheVariants as reloc
use Rattle.base_reloc.specs.declared.site.Site.{Site}
use Rattle.base_reloc.specs.declared.site.SiteKind.{SiteKind}
use Rattle.base_reloc.specs.declared.site.SiteKind.TheVariants as sites
use Rattle.base_reloc.specs.Kept.{sites_in}
use Rattle.record_text.specs.declared.image_line.ImageFault.{ImageFault}
use Rattle.record_text.specs.declared.image_line.ImageFault.TheVariants as faults
use Rattle.record_text.specs.declared.image_line.ImageLine.{ImageLine}
use Rattle.record_text.specs.declared.image_line.ImageLine.TheVariants as lines
use Rattle.record_text.specs.declared.image_line.RelocKind.{RelocKind}
use Rattle.record_text.specs.declared.image_line.RelocKind.TheVariants as kinds
use Rattle.record_text.specs.ImageTexts.{image_text}

-- lines, and whether they end in a refusal of the file
pub record Report : Type 0 where
  pub lines : List ImageLine
  pub is_refused : Bool

-- each line, and LF behind it
abbrev pub line_bytes : ImageLine → List ℕ
line_bytes line = image_text line ++ 10 ∷ []

abbrev pub bytes_of : List ImageLine → List ℕ
bytes_of ls = flat_map line_bytes ls

-- ---- faults, by name; want of memory is none of a file

abbrev pub pe_fault : PeFault → Option ImageFault
pe_fault (pe.Truncated at) = Some (faults.Truncated at)
pe_fault pe.Magic = Some faults.Magic
pe_fault pe.Machine = Some faults.Machine
pe_fault pe.Header = Some faults.Header
pe_fault pe.Subsystem = Some faults.Subsystem
pe_fault pe.Alignment = Some faults.Alignment
pe_fault pe.TooLarge = Some faults.TooLarge
pe_fault (pe.SectionOutside i) = Some (faults.SectionOutside i)
pe_fault (pe.SectionOverlap i) = Some (faults.SectionOverlap i)
pe_fault pe.EntryOutside = Some faults.EntryOutside
pe_fault pe.Directory = Some faults.Directory
pe_fault pe.Memory = None

abbrev pub reloc_fault : RelocFault → Option ImageFault
reloc_fault (reloc.BlockSize i) = Some (faults.BlockSize i)
reloc_fault (reloc.Kind i) = Some (faults.Kind i)
reloc_fault (reloc.Outside i) = Some (faults.Outside i)
reloc_fault (reloc.Overlap i) = Some (faults.Overlap i)
reloc_fault (reloc.Range32 i) = Some (faults.Range32 i)
reloc_fault reloc.Memory = None

abbrev pub refusal : Option ImageFault → List ImageLine
refusal (Some fault) = lines.Refused fault ∷ []
refusal None = []

abbrev pub refused : Option ImageFault → Report
refused fault = record { lines = refusal fault; is_refused = true }

abbrev pub end_report : Report
end_report = record { lines = lines.End ∷ []; is_refused = false }

-- lines in front of a report
abbrev pub behind : List ImageLine → Report → Report
behind before report = record { lines = before ++ report.lines; is_refused = report.is_refused }

-- ---- the headers and the sections

abbrev pub image_line : Fields → ImageLine
image_line image = lines.Image image.subsystem image.image_base image.size image.entry image.alignment image.stripped

-- 1 is read, 2 is write and 4 is execute
abbrev pub is_read : Section → Bool
is_read section = section.rights % 2 == 1

abbrev pub is_written : Section → Bool
is_written section = section.rights / 2 % 2 == 1

abbrev pub is_executed : Section → Bool
is_executed section = section.rights / 4 % 2 == 1

abbrev pub section_line : ℕ → Section → ImageLine
section_line number section =
    lines.Section number section.at section.len section.copied (is_read section) (is_written section) (is_executed section)

-- sections that are numbered from a number on
unfoldable pub section_lines : ℕ → List Section → List ImageLine
section_lines number [] = []
section_lines number (section ∷ sections) = section_line number section ∷ section_lines (number + 1) sections

unfoldable pub header_lines : Fields → List ImageLine
header_lines image = image_line image ∷ section_lines 0 image.sections

-- ---- the sites

abbrev pub kind_of : SiteKind → RelocKind
kind_of sites.Dir64 = kinds.Dir64
kind_of sites.Highlow = kinds.Highlow
kind_of sites.High20 = kinds.High20

abbrev pub site_line : Site → ImageLine
site_line site = lines.Site (kind_of site.kind) site.at

-- the text of the lines of sites
unfoldable pub sites_text : List Site → List ℕ
sites_text [] = []
sites_text (site ∷ sites) = line_bytes (site_line site) ++ sites_text sites

-- ---- the report

-- the values of a function at the first so many numbers from one on
unfoldable pub values_from : (ℕ → ℕ) → ℕ → ℕ → List ℕ
values_from f at zero = []
values_from f at (suc n) = f at ∷ values_from f (at + 1) n

-- the bytes of a placed image, in whole pages
abbrev pub placed : Fields → List ℕ → List ℕ
placed image file = values_from (placed_byte image file) 0 (in_pages image.size)

abbrev pub sites_report : Result (List Site) RelocFault → Report
sites_report (Ok sites) = behind (map site_line sites) end_report
sites_report (Err fault) = refused (reloc_fault fault)

abbrev pub by_image : List ℕ → Result Fields PeFault → Report
by_image file (Ok image) = behind (header_lines image) (sites_report (sites_in image (placed image file)))
by_image file (Err fault) = refused (pe_fault fault)

-- the image of a file, its sections and its sites, or why it is refused
unfoldable pub image_report : List ℕ → Report
image_report file = by_image file (image_of file)
