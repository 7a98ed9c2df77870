-- The text of each line on what an image file holds, without the line end.
use Rattle.std.specs.Prelude.{◌≡◌, ◌<◌, ◌^◌, ◌++◌, ◌&&◌, not, ℕ, Bool, true, false, List, [], ◌∷◌, codes, Option, Some, None, if◌then◌else◌}
use Rattle.std.specs.Fmt.{decimal}
use Rattle.std.specs.List.{list_all}
use Rattle.std.specs.Str.{bytes_eq}
use Rattle.uh_base.specs.ConsoleText.{is_printable}
use Rattle.uh_base.specs.Hex.{hex_digits}
use Rattle.record_text.specs.Texts.{spaced}
use Rattle.record_text.specs.declared.image_line.ImageFault.{ImageFault}
use Rattle.record_text.specs.declared.image_line.ImageFault.TheVariants as faults
use Rattle.record_text.specs.declared.image_line.ImageLine.{ImageLine}
use Rattle.record_text.specs.declared.image_line.ImageLine.TheVariants.{Image, Section, Site, Listed, Word, Half, NoInstruction, LastByte, Refused, End}
use Rattle.record_text.specs.declared.image_line.RelocKind.{RelocKind}
use Rattle.record_text.specs.declared.image_line.RelocKind.TheVariants.{Dir64, Highlow, High20}

abbrev pub kind_name : RelocKind → List ℕ
kind_name Dir64 = codes "dir64"
kind_name Highlow = codes "highlow"
kind_name High20 = codes "high20"

-- a fault's name, and its number where it has one
abbrev pub fault_name : ImageFault → List ℕ
fault_name (faults.Truncated at) = codes "Truncated"
fault_name faults.Magic = codes "Magic"
fault_name faults.Machine = codes "Machine"
fault_name faults.Header = codes "Header"
fault_name faults.Subsystem = codes "Subsystem"
fault_name faults.Alignment = codes "Alignment"
fault_name faults.TooLarge = codes "TooLarge"
fault_name (faults.SectionOutside i) = codes "SectionOutside"
fault_name (faults.SectionOverlap i) = codes "SectionOverlap"
fault_name faults.EntryOutside = codes "EntryOutside"
fault_name faults.Directory = codes "Directory"
fault_name (faults.BlockSize i) = codes "BlockSize"
fault_name (faults.Kind i) = codes "Kind"
fault_name (faults.Outside i) = codes "Outside"
fault_name (faults.Overlap i) = codes "Overlap"
fault_name (faults.Range32 i) = codes "Range32"

abbrev pub fault_number : ImageFault → Option ℕ
fault_number (faults.Truncated at) = Some at
fault_number faults.Magic = None
fault_number faults.Machine = None
fault_number faults.Header = None
fault_number faults.Subsystem = None
fault_number faults.Alignment = None
fault_number faults.TooLarge = None
fault_number (faults.SectionOutside i) = Some i
fault_number (faults.SectionOverlap i) = Some i
fault_number faults.EntryOutside = None
fault_number faults.Directory = None
fault_number (faults.BlockSize i) = Some i
fault_number (faults.Kind i) = Some i
fault_number (faults.Outside i) = Some i
fault_number (faults.Overlap i) = Some i
fault_number (faults.Range32 i) = Some i

-- a name, and a number in parentheses behind it
abbrev pub numbered : List ℕ → Option ℕ → List ℕ
numbered name None = name
numbered name (Some n) = name ++ 40 ∷ decimal n ++ 41 ∷ []

abbrev pub fault_text : ImageFault → List ℕ
fault_text fault = numbered (fault_name fault) (fault_number fault)

-- a right's letter, or `-` where it is absent
abbrev pub letter : Bool → ℕ → ℕ
letter is_there code = if is_there then code else 45

abbrev pub rights_text : Bool → Bool → Bool → List ℕ
rights_text read written executed = letter read 114 ∷ letter written 119 ∷ letter executed 120 ∷ []

abbrev pub stripped_word : Bool → List ℕ
stripped_word true = codes "stripped"
stripped_word false = codes "relocatable"

-- an offset of the image and a word of so many digits, in front of a text
abbrev pub code_text : ℕ → ℕ → ℕ → List ℕ → List ℕ
code_text at digits word text = spaced (hex_digits 8 at) (spaced (hex_digits digits word) text)

unfoldable pub image_text : ImageLine → List ℕ
image_text (Image subsystem base size entry alignment is_stripped) =
    spaced (codes "image") (spaced (decimal subsystem) (spaced (hex_digits 16 base) (spaced (decimal size) (spaced (decimal entry) (spaced (decimal alignment) (stripped_word is_stripped))))))
image_text (Section number at len copied read written executed) =
    spaced (codes "section") (spaced (decimal number) (spaced (decimal at) (spaced (decimal len) (spaced (decimal copied) (rights_text read written executed)))))
image_text (Site kind at) = spaced (codes "site") (spaced (kind_name kind) (decimal at))
image_text (Listed number) = spaced (codes "section") (decimal number)
image_text (Word at word text) = code_text at 8 word text
image_text (Half at half text) = code_text at 4 half text
image_text (NoInstruction at half) = code_text at 4 half (codes "-")
image_text (LastByte at byte) = code_text at 2 byte (codes "-")
image_text (Refused fault) = spaced (codes "refused") (fault_text fault)
image_text End = codes "end"

-- an instruction's text is printable ASCII, and not what stands where there is no instruction
abbrev pub is_instruction_text : List ℕ → Bool
is_instruction_text text = list_all is_printable text && not (bytes_eq text (codes "-"))

-- The words of a line keep their forms.
abbrev pub HasForms : ImageLine → Type 0
HasForms (Word at word text) = is_instruction_text text ≡ true
HasForms (Half at half text) = is_instruction_text text ≡ true
HasForms line = Unit {0}

-- The numbers of a fault, and those of a line, fit their types.
abbrev pub FaultFits : ImageFault → Type 0
FaultFits (faults.Truncated at) = at < 2 ^ 32
FaultFits (faults.SectionOutside i) = i < 2 ^ 16
FaultFits (faults.SectionOverlap i) = i < 2 ^ 16
FaultFits (faults.BlockSize i) = i < 2 ^ 32
FaultFits (faults.Kind i) = i < 2 ^ 32
FaultFits (faults.Outside i) = i < 2 ^ 32
FaultFits (faults.Overlap i) = i < 2 ^ 32
FaultFits (faults.Range32 i) = i < 2 ^ 32
FaultFits fault = Unit {0}

abbrev pub Fits : ImageLine → Type 0
Fits (Image subsystem base size entry alignment is_stripped) = (subsystem < 2 ^ 16) × (base < 2 ^ 64) × (size < 2 ^ 32) × (entry < 2 ^ 32) × (alignment < 2 ^ 32)
Fits (Section number at len copied read written executed) = (number < 2 ^ 16) × (at < 2 ^ 32) × (len < 2 ^ 32) × (copied < 2 ^ 32)
Fits (Site kind at) = at < 2 ^ 32
Fits (Listed number) = number < 2 ^ 16
Fits (Word at word text) = (at < 2 ^ 32) × (word < 2 ^ 32)
Fits (Half at half text) = (at < 2 ^ 32) × (half < 2 ^ 16)
Fits (NoInstruction at half) = (at < 2 ^ 32) × (half < 2 ^ 16)
Fits (LastByte at byte) = (at < 2 ^ 32) × (byte < 2 ^ 8)
Fits (Refused fault) = FaultFits fault
Fits End = Unit {0}

-- a line that there is: a value of the program whose words keep their forms
abbrev pub IsImageLine : ImageLine → Type 0
IsImageLine line = HasForms line × Fits line
