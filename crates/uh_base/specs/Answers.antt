-- What a call answers of an input, against what judging the input gives.
use Rattle.std.specs.Prelude.{◌≡◌, Option, Some, None, Result, Ok, Err}
use Rattle.uh_base.specs.declared.fault.Fault.{Fault}
use Rattle.uh_base.specs.declared.fault.Fault.TheVariants as faults

-- The first thing that is wrong is what is wrong.
infixl 10 ◌>>=◌
abbrev pub ◌>>=◌ : {E A B : Type 0} → Result A E → (A → Result B E) → Result B E
(Ok x) >>= f = f x
(Err e) >>= f = Err e

-- A fault, as judging names it, is what judging gives. Want of memory, which judging doesn't know, is free.
abbrev pub Stops : {F Y : Type 0} → Option F → Result Y F → Type 0
Stops None judged = Unit {0}
Stops (Some fault) judged = judged ≡ Err fault

-- what is wrong with a part, as judging names it
abbrev pub kind_of : {K : Type 0} → Fault K → Option K
kind_of faults.Memory = None
kind_of (faults.Kind kind) = Some kind

-- What a call answers, its value seen by view and its fault as judging names it, is what judging gives.
abbrev pub Reads : {E F X Y : Type 0} → (E → Option F) → (X → Y) → Result X E → Result Y F → Type 0
Reads named view (Ok x) judged = judged ≡ Ok (view x)
Reads named view (Err e) judged = Stops (named e) judged
