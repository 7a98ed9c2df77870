-- What is so of all variables.
use Rattle.std.specs.Prelude.{ℕ, ◌≡◌, ◌<◌, ◌≤◌, ◌^◌, false, List, [], ◌∷◌, length}
use Rattle.uh_base.specs.declared.guid.Guid.{Guid}
use Rattle.uh_base.specs.Guid.{IsGuid}
use Rattle.variable_store.specs.Entries.{Entry, is_named, total}
use Rattle.variable_store.specs.Sets.{lacks_boot_access}

-- numbers below a bound
abbrev pub AreBelow : ℕ → List ℕ → Type 0
AreBelow bound [] = Unit {0}
AreBelow bound (n ∷ ns) = (n < bound) × AreBelow bound ns

-- a variable has a name of at most 1,024 units, attributes that can be kept, and a byte at least
pub record IsEntry (entry : Entry) : Type 0 where
  pub vendor : IsGuid entry.vendor
  pub some_name : 0 < length entry.name
  pub short_name : length entry.name ≤ 1024
  pub units : AreBelow (2 ^ 16) entry.name
  pub attributes : entry.attributes < 8
  pub access : lacks_boot_access entry.attributes ≡ false
  pub some_bytes : 0 < length entry.data
  pub bytes : AreBelow (2 ^ 8) entry.data

abbrev pub AreEntries : List Entry → Type 0
AreEntries [] = Unit {0}
AreEntries (entry ∷ entries) = IsEntry entry × AreEntries entries

-- none has a name of a vendor
abbrev pub NoneNamed : List ℕ → Guid → List Entry → Type 0
NoneNamed name vendor [] = Unit {0}
NoneNamed name vendor (entry ∷ entries) = (is_named name vendor entry ≡ false) × NoneNamed name vendor entries

-- no two have the same vendor and name
abbrev pub AreApart : List Entry → Type 0
AreApart [] = Unit {0}
AreApart (entry ∷ entries) = NoneNamed entry.name entry.vendor entries × AreApart entries

-- They cost 65,536 bytes at most.
pub record AreVariables (entries : List Entry) : Type 0 where
  pub each : AreEntries entries
  pub apart : AreApart entries
  pub room : total entries ≤ 65_536
