-- What the calls of the handle database answer, and the database behind them (UEFI 2.10, section 7.3).
use Rattle.std.specs.Prelude.{ℕ, ◌≡◌, ◌+◌, ◌-◌, ◌^◌, ◌==◌, ◌&&◌, ◌||◌, not, Bool, false, List, [], ◌∷◌, ◌++◌, map, length, nat_le, slice_get, Option, Some, None, Result, Ok, Err, if◌then◌else◌}
use Rattle.std.specs.List.{filter, fold, list_any}
use Rattle.uh_base.specs.declared.guid.Guid.{Guid}
use Rattle.handle_db.specs.declared.refusal.HandleRefusal.{HandleRefusal}
use Rattle.handle_db.specs.declared.refusal.HandleRefusal.TheVariants.{Invalid, NotFound, Full, Memory}
use Rattle.handle_db.specs.Database.{Protocol, Handle, Database, shown, has_guid, handle_in, with_protocols, all_but, left_with, fresh, supports}

-- a handle, and the database behind
pub record Done : Type 0 where
  pub handle : ℕ
  pub database : Database

-- no more handles: 1,024 are live, or 2^60 - 1 were made
abbrev pub is_full : Database → Bool
is_full d = nat_le 1024 (length d.live) || nat_le (2 ^ 60 - 1) d.made

-- the handle that a next one will be
abbrev pub next_in : Database → Option ℕ
next_in d = if is_full d then None else Some (shown (d.made + 1))

-- A new handle stands last.
abbrev pub with_handle : Database → Guid → ℕ → Database
with_handle d guid interface = record { live = d.live ++ record { number = shown (d.made + 1); protocols = fresh guid interface ∷ [] } ∷ []; made = d.made + 1 }

abbrev pub installed_new : Database → Guid → ℕ → Result Done HandleRefusal
installed_new d guid interface = if is_full d then Err Full else Ok (record { handle = shown (d.made + 1); database = with_handle d guid interface })

abbrev pub installed_on : Database → ℕ → Guid → ℕ → Option Handle → Result Done HandleRefusal
installed_on d number guid interface None = Err Invalid
installed_on d number guid interface (Some handle) =
    if list_any (has_guid guid) handle.protocols then Err Invalid
    else Ok (record { handle = number; database = with_protocols d number (handle.protocols ++ fresh guid interface ∷ []) })

-- a protocol interface is installed on a handle, or on a new one
unfoldable pub installation : Database → Option ℕ → Guid → ℕ → Result Done HandleRefusal
installation d None guid interface = installed_new d guid interface
installation d (Some number) guid interface = installed_on d number guid interface (handle_in d number)

-- a handle, as soon as there is one, and the database behind
pub record AllDone : Type 0 where
  pub handle : Option ℕ
  pub database : Database

abbrev pub one_more : Result Done HandleRefusal → Result AllDone HandleRefusal
one_more (Ok done) = Ok (record { handle = Some done.handle; database = done.database })
one_more (Err refusal) = Err refusal

-- After others a pair of a GUID and an interface is installed, on the same handle.
abbrev pub installed_next : Result AllDone HandleRefusal → Guid × ℕ → Result AllDone HandleRefusal
installed_next (Ok done) pair = one_more (installation done.database done.handle pair.0 pair.1)
installed_next (Err refusal) pair = Err refusal

-- Pairs are installed one after another, all on one handle or on one new handle. The first refusal is that of them all.
unfoldable pub installation_of_all : Database → Option ℕ → List (Guid × ℕ) → Result AllDone HandleRefusal
installation_of_all d number pairs = fold installed_next (Ok (record { handle = number; database = d })) pairs

-- the protocols of a handle once a pair is installed after others
abbrev pub added : Result (List Protocol) HandleRefusal → Guid × ℕ → Result (List Protocol) HandleRefusal
added (Ok protocols) pair = if list_any (has_guid pair.0) protocols then Err Invalid else Ok (protocols ++ fresh pair.0 pair.1 ∷ [])
added (Err refusal) pair = Err refusal

-- a handle has this interface by this GUID
abbrev pub has_interface : Guid → ℕ → Handle → Bool
has_interface guid interface handle = list_any (λ (p : Protocol). has_guid guid p && p.interface == interface) handle.protocols

abbrev pub removed_from : Database → ℕ → Guid → ℕ → Option Handle → Result Database HandleRefusal
removed_from d number guid interface None = Err Invalid
removed_from d number guid interface (Some handle) = if has_interface guid interface handle then Ok (left_with d number (all_but guid handle.protocols)) else Err NotFound

-- an interface is taken from a handle, with its opens
unfoldable pub removal : Database → ℕ → Guid → ℕ → Result Database HandleRefusal
removal d number guid interface = removed_from d number guid interface (handle_in d number)

abbrev pub has_interface_on : Guid → ℕ → Option Handle → Bool
has_interface_on guid interface None = false
has_interface_on guid interface (Some handle) = has_interface guid interface handle

-- A live handle has this interface by this GUID: just then it can be taken away.
unfoldable pub has_interface_in : Database → ℕ → Guid → ℕ → Bool
has_interface_in d number guid interface = has_interface_on guid interface (handle_in d number)

abbrev pub discarded_on : Database → ℕ → Guid → Option Handle → Database
discarded_on d number guid None = d
discarded_on d number guid (Some handle) = if list_any (has_guid guid) handle.protocols then left_with d number (all_but guid handle.protocols) else d

-- the protocol of a GUID is taken from a handle whatever its interface, with its opens, where it is there
unfoldable pub discarded : Database → ℕ → Guid → Database
discarded d number guid = discarded_on d number guid (handle_in d number)

abbrev pub replaced_on : Database → ℕ → Guid → ℕ → ℕ → Option Handle → Result Database HandleRefusal
replaced_on d number guid old new None = Err Invalid
replaced_on d number guid old new (Some handle) = if has_interface guid old handle then Ok (with_protocols d number (all_but guid handle.protocols ++ fresh guid new ∷ [])) else Err NotFound

-- an interface is taken from a handle, with its opens, and another stands last in its place
unfoldable pub replacement : Database → ℕ → Guid → ℕ → ℕ → Result Database HandleRefusal
replacement d number guid old new = replaced_on d number guid old new (handle_in d number)

-- a pair has the GUID of a protocol interface
abbrev pub is_among : List (Guid × ℕ) → Protocol → Bool
is_among pairs protocol = list_any (λ (pair : Guid × ℕ). has_guid pair.0 protocol) pairs

abbrev pub keeps_some : List (Guid × ℕ) → Option Handle → Bool
keeps_some pairs None = false
keeps_some pairs (Some handle) = list_any (λ p. not (is_among pairs p)) handle.protocols

-- A live handle has a protocol interface by a GUID of none of the pairs: just then it stays live without theirs.
unfoldable pub stays_live : Database → ℕ → List (Guid × ℕ) → Bool
stays_live d number pairs = keeps_some pairs (handle_in d number)

-- the live handles that have a protocol, or all, in order of making
unfoldable pub handles_with : Database → Option Guid → List ℕ
handles_with d guid = map (λ (h : Handle). h.number) (filter (supports guid) d.live)

-- the first live handle that has a protocol
unfoldable pub first_with : Database → Guid → Option ℕ
first_with d guid = slice_get (handles_with d (Some guid)) 0

abbrev pub guids_on : Option Handle → List Guid
guids_on None = []
guids_on (Some handle) = map (λ (p : Protocol). p.guid) handle.protocols

-- the GUIDs of the handle's protocols in order
unfoldable pub guids_in : Database → ℕ → List Guid
guids_in d number = guids_on (handle_in d number)

-- An install that answers so leads from one database to another. Want of memory may come at any call that takes some;
-- then, as after each refusal, the database is as before.
abbrev pub InstallGives : Result ℕ HandleRefusal → Result Done HandleRefusal → Database → Database → Type 0
InstallGives (Ok handle) wanted old new = wanted ≡ Ok (record { handle = handle; database = new })
InstallGives (Err Memory) wanted old new = new ≡ old
InstallGives (Err Invalid) wanted old new = (wanted ≡ Err Invalid) × (new ≡ old)
InstallGives (Err NotFound) wanted old new = (wanted ≡ Err NotFound) × (new ≡ old)
InstallGives (Err Full) wanted old new = (wanted ≡ Err Full) × (new ≡ old)

-- So does an install of pairs: all are installed, or none.
abbrev pub AllGives : Result (Option ℕ) HandleRefusal → Result AllDone HandleRefusal → Database → Database → Type 0
AllGives (Ok handle) wanted old new = wanted ≡ Ok (record { handle = handle; database = new })
AllGives (Err Memory) wanted old new = new ≡ old
AllGives (Err Invalid) wanted old new = (wanted ≡ Err Invalid) × (new ≡ old)
AllGives (Err NotFound) wanted old new = (wanted ≡ Err NotFound) × (new ≡ old)
AllGives (Err Full) wanted old new = (wanted ≡ Err Full) × (new ≡ old)

-- So are pairs added to the protocols of one handle, up to the first that is refused.
abbrev pub AddGives : Result (Unit {0}) HandleRefusal → Result (List Protocol) HandleRefusal → List Protocol → Type 0
AddGives (Ok done) wanted new = wanted ≡ Ok new
AddGives (Err Memory) wanted new = Unit {0}
AddGives (Err Invalid) wanted new = wanted ≡ Err Invalid
AddGives (Err NotFound) wanted new = wanted ≡ Err NotFound
AddGives (Err Full) wanted new = wanted ≡ Err Full

-- A change that takes no memory leads so from one database to another.
abbrev pub ChangeGives : Result (Unit {0}) HandleRefusal → Result Database HandleRefusal → Database → Database → Type 0
ChangeGives (Ok done) wanted old new = wanted ≡ Ok new
ChangeGives (Err refusal) wanted old new = (wanted ≡ Err refusal) × (new ≡ old)
