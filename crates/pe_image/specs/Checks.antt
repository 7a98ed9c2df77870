-- Checks in order, of which the first that fails gives the fault.
use Rattle.std.specs.Prelude.{◌≡◌, ℕ, ◌+◌, List, [], ◌∷◌, length, Bool, nat_le, Result, Ok, Err, if◌then◌else◌}
use Rattle.pe_image.specs.declared.fault.PeFault.{PeFault}
use Rattle.pe_image.specs.declared.fault.PeFault.TheVariants as faults

pub record Check : Type 0 where
  pub passes : Bool
  pub fault : PeFault

abbrev pub check : Bool → PeFault → Check
check passes fault = record { passes = passes; fault = fault }

-- the field of so many bytes at an offset lies wholly in the file
abbrev pub is_there : List ℕ → ℕ → ℕ → Check
is_there bytes at width = check (nat_le (at + width) (length bytes)) (faults.Truncated at)

-- the value where each check passes, else the fault of the first that fails
abbrev pub judged : {X : Type 0} → List Check → X → Result X PeFault
judged [] x = Ok x
judged (c ∷ cs) x = if c.passes then judged cs x else Err c.fault

-- What a call answered, seen by view, is what judging gives, unless memory ran out.
abbrev pub Stops : {Y : Type 0} → PeFault → Result Y PeFault → Type 0
Stops faults.Memory judged = Unit {0}
Stops fault judged = judged ≡ Err fault

abbrev pub Reads : {X Y : Type 0} → (X → Y) → Result X PeFault → Result Y PeFault → Type 0
Reads view (Ok x) judged = judged ≡ Ok (view x)
Reads view (Err fault) judged = Stops fault judged
