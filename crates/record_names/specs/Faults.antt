-- The texts of faults of a virtual address map, and the fault of a text.
use Rattle.std.specs.Prelude.{ℕ, ◌<◌, ◌^◌, ◌==◌, ◌++◌, Bool, List, [], ◌∷◌, codes, length, nat_lt, Option, Some, None, option_and_then, option_map, if◌then◌else◌}
use Rattle.std.specs.Fmt.{decimal}
use Rattle.std.specs.List.{before_first, after_first, position_or_len}
use Rattle.std.specs.Str.{bytes_eq}
use Rattle.std.specs.Borrow.{Bor}
use Rattle.uh_base.specs.Numbers.{number_of}
use Rattle.record_names.specs.declared.fault.Fault.{Fault}
use Rattle.record_names.specs.declared.fault.Fault.TheVariants as faults

-- a name and numbers in parentheses behind it
abbrev pub numbered : List ℕ → List ℕ → List ℕ
numbered name numbers = name ++ 40 ∷ (numbers ++ 41 ∷ [])

abbrev pub fault_text : Fault → List ℕ
fault_text faults.BeforeExit = codes "BeforeExit"
fault_text faults.AlreadyMapped = codes "AlreadyMapped"
fault_text faults.DescriptorSize = codes "DescriptorSize"
fault_text faults.DescriptorVersion = codes "DescriptorVersion"
fault_text faults.MapSize = codes "MapSize"
fault_text (faults.NotFound i) = numbered (codes "NotFound") (decimal i)
fault_text (faults.Twice i) = numbered (codes "Twice") (decimal i)
fault_text (faults.Unaligned i) = numbered (codes "Unaligned") (decimal i)
fault_text (faults.OutOfRange i) = numbered (codes "OutOfRange") (decimal i)
fault_text (faults.Overlap i) = numbered (codes "Overlap") (decimal i)
fault_text (faults.Shadow i) = numbered (codes "Shadow") (decimal i)
fault_text faults.OsWindow = codes "OsWindow"
fault_text (faults.NoMapping i) = numbered (codes "NoMapping") (decimal i)
fault_text (faults.Reloc32 image site) = numbered (codes "Reloc32") (decimal image ++ 44 ∷ decimal site)

-- The numbers of a fault fit their types.
abbrev pub FaultFits : Fault → Type 0
FaultFits (faults.NotFound i) = i < 2 ^ 32
FaultFits (faults.Twice i) = i < 2 ^ 32
FaultFits (faults.Unaligned i) = i < 2 ^ 32
FaultFits (faults.OutOfRange i) = i < 2 ^ 32
FaultFits (faults.Overlap i) = i < 2 ^ 32
FaultFits (faults.Shadow i) = i < 2 ^ 32
FaultFits (faults.NoMapping i) = i < 2 ^ 32
FaultFits (faults.Reloc32 image site) = (image < 2 ^ 32) × (site < 2 ^ 32)
FaultFits fault = Unit {0}

-- ---- the one fault that a text may be the text of

infixl 10 ◌>>=◌
abbrev pub ◌>>=◌ : {A B : Type 0} → Option A → (A → Option B) → Option B
o >>= f = option_and_then f o

-- what stands before the first byte of a kind, and what behind it
abbrev pub is_mark : ℕ → ℕ → Bool
is_mark mark b = b == mark

unfoldable pub cut_at : ℕ → List ℕ → Option (List ℕ × List ℕ)
cut_at mark text = if nat_lt (position_or_len (is_mark mark) text) (length text) then Some (before_first (is_mark mark) text, after_first (is_mark mark) text) else None

abbrev pub seen_cut : Option (Bor (List ℕ) × Bor (List ℕ)) → Option (List ℕ × List ℕ)
seen_cut parts = option_map (λ p. (p.0.now, p.1.now)) parts

-- a number below 2^32
unfoldable pub small_number : List ℕ → Option ℕ
small_number text = number_of text >>= λ n. if nat_lt n (2 ^ 32) then Some n else None

unfoldable pub plain_fault : List ℕ → Option Fault
plain_fault name =
    if bytes_eq name (codes "BeforeExit") then Some faults.BeforeExit
    else (if bytes_eq name (codes "AlreadyMapped") then Some faults.AlreadyMapped
    else (if bytes_eq name (codes "DescriptorSize") then Some faults.DescriptorSize
    else (if bytes_eq name (codes "DescriptorVersion") then Some faults.DescriptorVersion
    else (if bytes_eq name (codes "MapSize") then Some faults.MapSize
    else (if bytes_eq name (codes "OsWindow") then Some faults.OsWindow else None)))))

unfoldable pub numbered_fault : List ℕ → ℕ → Option Fault
numbered_fault name i =
    if bytes_eq name (codes "NotFound") then Some (faults.NotFound i)
    else (if bytes_eq name (codes "Twice") then Some (faults.Twice i)
    else (if bytes_eq name (codes "Unaligned") then Some (faults.Unaligned i)
    else (if bytes_eq name (codes "OutOfRange") then Some (faults.OutOfRange i)
    else (if bytes_eq name (codes "Overlap") then Some (faults.Overlap i)
    else (if bytes_eq name (codes "Shadow") then Some (faults.Shadow i)
    else (if bytes_eq name (codes "NoMapping") then Some (faults.NoMapping i) else None))))))

unfoldable pub site_fault : List ℕ → Option Fault
site_fault numbers = do
  parts ← cut_at 44 numbers
  image ← small_number parts.0
  site ← small_number parts.1
  Some (faults.Reloc32 image site)

unfoldable pub with_numbers : List ℕ → List ℕ → Option Fault
with_numbers name numbers = if bytes_eq name (codes "Reloc32") then site_fault numbers else (small_number numbers >>= numbered_fault name)

-- the fault of a name and of what stands behind the parenthesis
unfoldable pub behind_name : List ℕ → List ℕ → Option Fault
behind_name name rest = cut_at 41 rest >>= λ parts. with_numbers name parts.0

abbrev pub by_cut : List ℕ → Option (List ℕ × List ℕ) → Option Fault
by_cut text None = plain_fault text
by_cut text (Some parts) = behind_name parts.0 parts.1

unfoldable pub guess_of : List ℕ → Option Fault
guess_of text = by_cut text (cut_at 40 text)
