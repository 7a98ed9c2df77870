-- What is wrong with a certificate, and where; and what the program answers beside what reading gives.
use Rattle.std.specs.Prelude.{◌≡◌, ℕ, Option, Some, None, Result, Ok, Err}
use Rattle.prov_cert.specs.declared.fault.Part.{Part}
use Rattle.prov_cert.specs.declared.fault.CertFault.{CertFault}
use Rattle.prov_cert.specs.declared.fault.CertFault.TheVariants as faults

abbrev pub Place : Type 0
Place = Part × ℕ

-- an item that was read, or the fault of its place
abbrev pub placed : {A B : Type 0} → Place → Option A → (A → Result B Place) → Result B Place
placed place None f = Err place
placed place (Some x) f = f x

infixl 10 ◌>>>◌
abbrev pub ◌>>>◌ : {A B : Type 0} → Result A Place → (A → Result B Place) → Result B Place
(Ok x) >>> f = f x
(Err place) >>> f = Err place

-- What the program answers, seen by view, is what reading gives, unless memory runs out.
abbrev pub Stops : {Y : Type 0} → CertFault → Result Y Place → Type 0
Stops faults.Memory read = Unit {0}
Stops (faults.At part index) read = read ≡ Err (part, index)

abbrev pub Reads : {X Y : Type 0} → (X → Y) → Result X CertFault → Result Y Place → Type 0
Reads view (Ok x) read = read ≡ Ok (view x)
Reads view (Err e) read = Stops e read
