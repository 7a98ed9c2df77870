-- What is so of every handle database.
use Rattle.std.specs.Prelude.{ℕ, ◌≡◌, ◌<◌, ◌≤◌, ◌*◌, ◌%◌, ◌^◌, true, false, List, length}
use Rattle.std.specs.List.{All, AllPairs}
use Rattle.handle_db.specs.declared.entry.OpenEntry.{OpenEntry}
use Rattle.handle_db.specs.Database.{Protocol, Handle, Database, same_guid, is_kept}

-- An entry names neither attribute 4 nor agent 0.
abbrev pub AreKept : List OpenEntry → Type 0
AreKept opens = All (λ e. is_kept e ≡ true) opens

-- A live handle has protocols, of different GUIDs, and was made.
pub record IsHandle (made : ℕ) (handle : Handle) : Type 0 where
  pub some : 0 < length handle.protocols
  pub apart : AllPairs (λ (p q : Protocol). same_guid p.guid q.guid ≡ false) handle.protocols
  pub opens : All (λ (p : Protocol). AreKept p.opens) handle.protocols
  pub shown : handle.number % 16 ≡ 0
  pub from : 16 ≤ handle.number
  pub to : handle.number ≤ 16 * made

-- At most 1,024 handles are live, in order of making, and at most 2^60 - 1 were made.
pub record IsDatabase (d : Database) : Type 0 where
  pub few : length d.live ≤ 1024
  pub made : d.made < 2 ^ 60
  pub handles : All (IsHandle d.made) d.live
  pub order : AllPairs (λ (a b : Handle). a.number < b.number) d.live
