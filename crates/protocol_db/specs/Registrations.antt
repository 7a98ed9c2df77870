-- Handles, and who is notified of new protocols (UEFI 2.10, section 7.3, RegisterProtocolNotify).
use Rattle.std.specs.Prelude.{ℕ, ◌+◌, ◌*◌, ◌==◌, ◌&&◌, not, Bool, List, [], ◌∷◌, ◌++◌, map, drop, slice_get, Option, Some, None, if◌then◌else◌}
use Rattle.std.specs.List.{find, filter, flat_map, list_any}
use Rattle.uh_base.specs.declared.guid.Guid.{Guid}
use Rattle.handle_db.specs.Database.{Database, same_guid, at_first}

-- an event that is notified of each interface that is installed by a GUID, under a number as it is shown, with the handles
-- of which nobody has asked yet, the longest pending first
pub record Registration : Type 0 where
  pub number : ℕ
  pub guid : Guid
  pub event : ℕ
  pub pending : List ℕ

-- the handle database, the live registrations in order of making, and how many of these were made in all
pub record Protocols : Type 0 where
  pub handles : Database
  pub registrations : List Registration
  pub made : ℕ

-- how registration k is shown, from 1 in order of making
abbrev pub shown_registration : ℕ → ℕ
shown_registration k = 16 * k + 4

abbrev pub is_numbered : ℕ → Registration → Bool
is_numbered number r = r.number == number

abbrev pub is_for : Guid → Registration → Bool
is_for guid r = same_guid r.guid guid

-- a registration is for the GUID of one of the pairs of a GUID and an interface
abbrev pub is_for_any : List (Guid × ℕ) → Registration → Bool
is_for_any pairs r = list_any (λ (pair : Guid × ℕ). is_for pair.0 r) pairs

-- the events that are registered for a GUID
unfoldable pub events_for : List Registration → Guid → List ℕ
events_for registrations guid = map (λ (r : Registration). r.event) (filter (is_for guid) registrations)

-- A handle is pending last, unless it is pending already.
abbrev pub pended : ℕ → List ℕ → List ℕ
pended handle pending = if list_any (λ h. h == handle) pending then pending else pending ++ handle ∷ []

-- those that are registered for the GUIDs of pairs, pair by pair
unfoldable pub events_for_all : List Registration → List (Guid × ℕ) → List ℕ
events_for_all registrations pairs = flat_map (λ (pair : Guid × ℕ). events_for registrations pair.0) pairs

-- a registration that is concerned gets a handle pending
abbrev pub notified : (Registration → Bool) → ℕ → Registration → Registration
notified is_concerned handle r = if is_concerned r then record r { pending = pended handle r.pending } else r

unfoldable pub all_notified : List Registration → (Registration → Bool) → ℕ → List Registration
all_notified registrations is_concerned handle = map (notified is_concerned handle) registrations

-- a registration for one of the pairs for which a handle isn't pending yet
abbrev pub lacks : List (Guid × ℕ) → ℕ → Registration → Bool
lacks pairs handle r = is_for_any pairs r && not (list_any (λ h. h == handle) r.pending)

-- a registration with a handle pending last
abbrev pub with_last : ℕ → Registration → Registration
with_last handle r = record r { pending = r.pending ++ handle ∷ [] }

-- the registrations of a GUID have a handle pending no more
abbrev pub silenced : Guid → ℕ → Registration → Registration
silenced guid handle r = if is_for guid r then record r { pending = filter (λ h. not (h == handle)) r.pending } else r

unfoldable pub all_silenced : List Registration → Guid → ℕ → List Registration
all_silenced registrations guid handle = map (silenced guid handle) registrations

abbrev pub first_in : Option Registration → Option ℕ
first_in None = None
first_in (Some r) = slice_get r.pending 0

-- the handle that is pending longest
unfoldable pub first_pending : Protocols → ℕ → Option ℕ
first_pending p number = first_in (find (is_numbered number) p.registrations)

-- the same, pending no more
unfoldable pub first_taken : Protocols → ℕ → Protocols
first_taken p number = record p { registrations = at_first (is_numbered number) (λ r. record r { pending = drop 1 r.pending }) p.registrations }
