-- The handle database (UEFI 2.10, section 7.3): its handles, the protocol interfaces on them, and who opened each.
use Rattle.std.specs.Prelude.{ℕ, ◌+◌, ◌*◌, ◌==◌, ◌&&◌, not, Bool, true, List, [], ◌∷◌, ◌++◌, Option, Some, None, if◌then◌else◌}
use Rattle.std.specs.List.{find, filter, list_any}
use Rattle.std.specs.Option.{option_map, is_some}
use Rattle.uh_base.specs.declared.guid.Guid.{Guid}
pub use Rattle.uh_base.specs.Guid.{same_guid}
use Rattle.handle_db.specs.declared.entry.OpenEntry.{OpenEntry}

-- one protocol interface on a handle: its GUID, the interface, and the entries of its opens, the oldest first
pub record Protocol : Type 0 where
  pub guid : Guid
  pub interface : ℕ
  pub opens : List OpenEntry

-- a handle as it is shown, and its protocol interfaces in the order in which they were installed
pub record Handle : Type 0 where
  pub number : ℕ
  pub protocols : List Protocol

-- the live handles in order of making, and how many were made in all
pub record Database : Type 0 where
  pub live : List Handle
  pub made : ℕ

-- how handle k is shown, from 1 in order of making
abbrev pub shown : ℕ → ℕ
shown k = 16 * k

abbrev pub has_number : ℕ → Handle → Bool
has_number number handle = handle.number == number

abbrev pub has_guid : Guid → Protocol → Bool
has_guid guid protocol = same_guid protocol.guid guid

-- the live handle that is shown so
unfoldable pub handle_in : Database → ℕ → Option Handle
handle_in d number = find (has_number number) d.live

-- the protocol of a handle that has a GUID
unfoldable pub protocol_on : Guid → Option Handle → Option Protocol
protocol_on guid None = None
protocol_on guid (Some handle) = find (has_guid guid) handle.protocols

abbrev pub protocol_in : Database → ℕ → Guid → Option Protocol
protocol_in d number guid = protocol_on guid (handle_in d number)

abbrev pub is_handle : Database → ℕ → Bool
is_handle d number = is_some (handle_in d number)

abbrev pub interface_in : Database → ℕ → Guid → Option ℕ
interface_in d number guid = option_map (λ (p : Protocol). p.interface) (protocol_in d number guid)

abbrev pub opens_in : Database → ℕ → Guid → Option (List OpenEntry)
opens_in d number guid = option_map (λ (p : Protocol). p.opens) (protocol_in d number guid)

-- the first element that passes a test is changed, and all others are as they were
unfoldable pub at_first : {X : Type 0} → (X → Bool) → (X → X) → List X → List X
at_first test change [] = []
at_first test change (x ∷ xs) = if test x then change x ∷ xs else x ∷ at_first test change xs

-- the handle has these protocols
abbrev pub with_protocols : Database → ℕ → List Protocol → Database
with_protocols d number protocols = record d { live = at_first (has_number number) (λ h. record h { protocols = protocols }) d.live }

-- a protocol of the handle has its opens changed
abbrev pub with_opens : Guid → (List OpenEntry → List OpenEntry) → List Protocol → List Protocol
with_opens guid change protocols = at_first (has_guid guid) (λ p. record p { opens = change p.opens }) protocols

unfoldable pub reopened : Database → ℕ → Guid → (List OpenEntry → List OpenEntry) → Database
reopened d number guid change = record d { live = at_first (has_number number) (λ h. record h { protocols = with_opens guid change h.protocols }) d.live }

-- the protocols but for those of a GUID
abbrev pub all_but : Guid → List Protocol → List Protocol
all_but guid protocols = filter (λ p. not (has_guid guid p)) protocols

-- A handle without protocols is gone.
abbrev pub left_with : Database → ℕ → List Protocol → Database
left_with d number [] = record d { live = filter (λ h. not (has_number number h)) d.live }
left_with d number (protocol ∷ protocols) = with_protocols d number (protocol ∷ protocols)

-- a protocol as it is installed, opened by nobody
abbrev pub fresh : Guid → ℕ → Protocol
fresh guid interface = record { guid = guid; interface = interface; opens = [] }

-- opens that are alike
abbrev pub is_like : OpenEntry → OpenEntry → Bool
is_like entry other = other.agent == entry.agent && (other.controller == entry.controller && other.attributes == entry.attributes)

-- An entry counts one open more, up to 2^32 - 1.
abbrev pub once_more : OpenEntry → OpenEntry
once_more entry = record entry { count = if entry.count == 0xffffffff then entry.count else entry.count + 1 }

-- An open that is like an entry counts there, and else is a new entry, which stands last.
abbrev pub noted : OpenEntry → List OpenEntry → List OpenEntry
noted entry opens = if list_any (is_like entry) opens then at_first (is_like entry) once_more opens else opens ++ entry ∷ []

-- Opens of a test protocol (attribute 4) and those of no agent leave no entry.
abbrev pub is_kept : OpenEntry → Bool
is_kept entry = not (entry.attributes == 4) && not (entry.agent == 0)

-- an open of a protocol of a handle
abbrev pub with_open : Database → ℕ → Guid → OpenEntry → Database
with_open d number guid entry = if is_kept entry then reopened d number guid (noted entry) else d

-- an entry of an agent for a controller
abbrev pub is_between : ℕ → ℕ → OpenEntry → Bool
is_between agent controller e = e.agent == agent && e.controller == controller

-- the entries but for those of an agent for a controller
abbrev pub closed : ℕ → ℕ → List OpenEntry → List OpenEntry
closed agent controller opens = filter (λ e. not (is_between agent controller e)) opens

-- the live handles that have a protocol, or all
abbrev pub supports : Option Guid → Handle → Bool
supports None handle = true
supports (Some guid) handle = list_any (has_guid guid) handle.protocols
