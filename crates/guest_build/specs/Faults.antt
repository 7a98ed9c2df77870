-- What is wrong with a text, and on which line.
use Rattle.std.specs.Prelude.{◌≡◌, ℕ, List, ◌++◌, codes, Option, Some, None, Result, Ok, Err}
use Rattle.uh_base.specs.Answers.{Stops, kind_of}
use Rattle.guest_build.specs.declared.fault.AsmKind.{AsmKind}
use Rattle.guest_build.specs.declared.fault.AsmKind.TheVariants as kinds
use Rattle.guest_build.specs.declared.fault.AsmFault.{AsmFault}
use Rattle.guest_build.specs.declared.fault.AsmFault.TheVariants as faults
use Rattle.uh_base.specs.declared.fault.Fault.{Fault}
use Rattle.uh_base.specs.declared.fault.Fault.TheVariants as inner

abbrev pub kind_name : AsmKind → List ℕ
kind_name kinds.Word = codes "Word"
kind_name kinds.Operand = codes "Operand"
kind_name kinds.Twice = codes "Twice"
kind_name kinds.Label = codes "Label"
kind_name kinds.Range = codes "Range"
kind_name kinds.Size = codes "Size"

-- ---- one line: the first thing that is wrong is what is wrong

-- what stands in a list behind what stood there before
abbrev pub behind : {A : Type 0} → List A → Result (List A) AsmKind → Result (List A) AsmKind
behind before (Ok more) = Ok (before ++ more)
behind before (Err kind) = Err kind

-- What is put behind a list is what judging gives, unless memory runs out.
abbrev pub Puts : {A X : Type 0} → Result X (Fault AsmKind) → (old new : List A) → Result (List A) AsmKind → Type 0
Puts (Ok done) old new judged = behind old judged ≡ Ok new
Puts (Err e) old new judged = Stops (kind_of e) judged

-- ---- the text: what is wrong, and on which line

abbrev pub Place : Type 0
Place = ℕ × AsmKind

abbrev pub on_line : {A B : Type 0} → ℕ → Result A AsmKind → (A → Result B Place) → Result B Place
on_line line (Ok x) f = f x
on_line line (Err kind) f = Err (line, kind)

abbrev pub fault_on : ℕ → Fault AsmKind → AsmFault
fault_on line (inner.Kind kind) = faults.At line kind
fault_on line inner.Memory = faults.Memory

-- a fault, as judging names it
abbrev pub fault_of : AsmFault → Option Place
fault_of faults.Memory = None
fault_of (faults.At line kind) = Some (line, kind)
