-- What is so of every state.
use Rattle.std.specs.Prelude.{ℕ, ◌≡◌, ◌<◌, ◌≤◌, ◌+◌, ◌*◌, ◌%◌, ◌^◌, ◌==◌, false, length}
use Rattle.std.specs.List.{All, AllPairs}
use Rattle.handle_db.specs.Whole.{IsDatabase}
use Rattle.protocol_db.specs.Registrations.{Registration, Protocols}

-- A live registration was made, and no handle is pending twice.
pub record IsRegistration (made : ℕ) (r : Registration) : Type 0 where
  pub once : AllPairs (λ (a b : ℕ). (a == b) ≡ false) r.pending
  pub shown : r.number % 16 ≡ 4
  pub from : 20 ≤ r.number
  pub to : r.number ≤ 16 * made + 4

-- At most 256 registrations are live, in order of making, and at most 2^60 - 1 were made.
pub record IsWhole (p : Protocols) : Type 0 where
  pub handles : IsDatabase p.handles
  pub few : length p.registrations ≤ 256
  pub made : p.made < 2 ^ 60
  pub registrations : All (IsRegistration p.made) p.registrations
  pub order : AllPairs (λ (a b : Registration). a.number < b.number) p.registrations
