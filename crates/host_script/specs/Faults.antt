-- What is wrong with a script, and where.
use Rattle.std.specs.Prelude.{◌≡◌, ℕ, List, codes, Result, Ok, Err}
use Rattle.host_script.specs.declared.fault.ScriptKind.{ScriptKind}
use Rattle.host_script.specs.declared.fault.ScriptKind.TheVariants as kinds
use Rattle.host_script.specs.declared.fault.ScriptFault.{ScriptFault}
use Rattle.host_script.specs.declared.fault.ScriptFault.TheVariants as faults
use Rattle.host_script.specs.declared.fault.Fault.{Fault}
use Rattle.host_script.specs.declared.fault.Fault.TheVariants as inner

abbrev pub kind_name : ScriptKind → List ℕ
kind_name kinds.Text = codes "Text"
kind_name kinds.Key = codes "Key"
kind_name kinds.Missing = codes "Missing"
kind_name kinds.Shape = codes "Shape"
kind_name kinds.Value = codes "Value"
kind_name kinds.Name = codes "Name"
kind_name kinds.Count = codes "Count"
kind_name kinds.Store = codes "Store"

-- ---- one table: the first thing that is wrong is what is wrong

infixl 10 ◌>>=◌
abbrev pub ◌>>=◌ : {A B : Type 0} → Result A ScriptKind → (A → Result B ScriptKind) → Result B ScriptKind
(Ok x) >>= f = f x
(Err e) >>= f = Err e

-- What the program answers of a table, seen by view, is what judging it gives, unless memory runs out.
abbrev pub Fails : {Y : Type 0} → Fault → Result Y ScriptKind → Type 0
Fails inner.Memory judged = Unit {0}
Fails (inner.Kind kind) judged = judged ≡ Err kind

abbrev pub Gives : {X Y : Type 0} → (X → Y) → Result X Fault → Result Y ScriptKind → Type 0
Gives view (Ok x) judged = judged ≡ Ok (view x)
Gives view (Err e) judged = Fails e judged

-- ---- the document: what is wrong, and at which step

abbrev pub Place : Type 0
Place = ℕ × ScriptKind

abbrev pub placed : {A B : Type 0} → ℕ → Result A ScriptKind → (A → Result B Place) → Result B Place
placed step (Ok x) f = f x
placed step (Err kind) f = Err (step, kind)

abbrev pub fault_at : ℕ → Fault → ScriptFault
fault_at step (inner.Kind kind) = faults.At step kind
fault_at step inner.Memory = faults.Memory

-- What the program answers, seen by view, is what judging gives, unless memory runs out.
abbrev pub Stops : {Y : Type 0} → ScriptFault → Result Y Place → Type 0
Stops faults.Memory judged = Unit {0}
Stops (faults.At step kind) judged = judged ≡ Err (step, kind)

abbrev pub Reads : {X Y : Type 0} → (X → Y) → Result X ScriptFault → Result Y Place → Type 0
Reads view (Ok x) judged = judged ≡ Ok (view x)
Reads view (Err e) judged = Stops e judged
