-- What the calls on protocols answer, and the lists behind them (UEFI 2.10, section 7.3).
use Rattle.std.specs.Prelude.{ℕ, ◌≡◌, ◌+◌, ◌-◌, ◌^◌, ◌==◌, ◌&&◌, ◌||◌, not, Bool, false, List, [], ◌∷◌, ◌++◌, length, nat_le, Option, Some, None, Result, Ok, Err, if◌then◌else◌}
use Rattle.std.specs.List.{filter, fold, list_any}
use Rattle.std.specs.Option.{is_some}
use Rattle.uh_base.specs.declared.guid.Guid.{Guid}
use Rattle.handle_db.specs.declared.entry.OpenEntry.{OpenEntry}
use Rattle.handle_db.specs.declared.refusal.HandleRefusal.{HandleRefusal}
use Rattle.handle_db.specs.declared.refusal.HandleRefusal.TheVariants as handle
use Rattle.handle_db.specs.Database.{Database, same_guid, is_handle, protocol_in, opens_in, reopened, is_between, closed, with_open}
use Rattle.handle_db.specs.Calls.{Done as HandleDone, AllDone as AllHandleDone, installation as handle_installation, installation_of_all as handle_installation_of_all, next_in, has_interface_in, stays_live, removal, replacement, discarded as handle_discarded}
use Rattle.protocol_db.specs.declared.request.OpenRequest.{OpenRequest}
use Rattle.protocol_db.specs.declared.refusal.ProtocolRefusal.{ProtocolRefusal}
use Rattle.protocol_db.specs.declared.refusal.ProtocolRefusal.TheVariants.{Invalid, NotFound, Unsupported, AccessDenied, AlreadyStarted, Full, Memory}
use Rattle.protocol_db.specs.Registrations.{Registration, Protocols, shown_registration, events_for, is_for, is_for_any, events_for_all, all_notified, all_silenced}
use Rattle.protocol_db.specs.Opening.{entry_of, opening, is_held}

-- an answer, and what is behind it
pub record Done (A : Type 0) : Type 0 where
  pub answer : A
  pub after : Protocols

-- the handle on which an interface was installed, and the events that are registered for its GUID, in order
pub record Installation : Type 0 where
  pub handle : ℕ
  pub events : List ℕ

-- the handle on which an install will be
abbrev pub target_in : Database → Option ℕ → Option ℕ
target_in d None = next_in d
target_in d (Some number) = Some number

-- A refusal of the handle database is one here.
abbrev pub refused : HandleRefusal → ProtocolRefusal
refused handle.Invalid = Invalid
refused handle.NotFound = NotFound
refused handle.Full = Full
refused handle.Memory = Memory

-- An interface is there, and its handle is pending for the registrations of its GUID.
abbrev pub announced : Protocols → Database → ℕ → Guid → Done Installation
announced p d handle guid = record {
  answer = record { handle = handle; events = events_for p.registrations guid };
  after = record p { handles = d; registrations = all_notified p.registrations (is_for guid) handle };
}

abbrev pub installed : Protocols → Guid → Result HandleDone HandleRefusal → Result (Done Installation) ProtocolRefusal
installed p guid (Ok done) = Ok (announced p done.database done.handle guid)
installed p guid (Err refusal) = Err (refused refusal)

-- InstallProtocolInterface
unfoldable pub installation : Protocols → Option ℕ → Guid → ℕ → Result (Done Installation) ProtocolRefusal
installation p number guid interface = installed p guid (handle_installation p.handles number guid interface)

-- the handle on which pairs were installed, none without a pair where none was given, and the events that are registered
-- for their GUIDs, pair by pair
pub record InstallationOfAll : Type 0 where
  pub handle : Option ℕ
  pub events : List ℕ

abbrev pub with_pending : List Registration → List (Guid × ℕ) → Option ℕ → List Registration
with_pending registrations pairs None = registrations
with_pending registrations pairs (Some handle) = all_notified registrations (is_for_any pairs) handle

-- The interfaces of pairs are there, and their handle is pending for the registrations of their GUIDs.
abbrev pub all_announced : Protocols → List (Guid × ℕ) → AllHandleDone → Done InstallationOfAll
all_announced p pairs done = record {
  answer = record { handle = done.handle; events = events_for_all p.registrations pairs };
  after = record p { handles = done.database; registrations = with_pending p.registrations pairs done.handle };
}

abbrev pub all_installed : Protocols → List (Guid × ℕ) → Result AllHandleDone HandleRefusal → Result (Done InstallationOfAll) ProtocolRefusal
all_installed p pairs (Ok done) = Ok (all_announced p pairs done)
all_installed p pairs (Err refusal) = Err (refused refusal)

-- InstallMultipleProtocolInterfaces: all pairs are installed on one handle, or none.
unfoldable pub installation_of_all : Protocols → Option ℕ → List (Guid × ℕ) → Result (Done InstallationOfAll) ProtocolRefusal
installation_of_all p number pairs = all_installed p pairs (handle_installation_of_all p.handles number pairs)

-- An interface is gone, and its handle is pending for no registration of its GUID.
abbrev pub withdrawn : Protocols → Database → ℕ → Guid → Protocols
withdrawn p d number guid = record p { handles = d; registrations = all_silenced p.registrations guid number }

abbrev pub uninstalled : Protocols → ℕ → Guid → Result Database HandleRefusal → Result Protocols ProtocolRefusal
uninstalled p number guid (Ok d) = if is_held p.handles number guid then Err AccessDenied else Ok (withdrawn p d number guid)
uninstalled p number guid (Err refusal) = Err (refused refusal)

-- UninstallProtocolInterface
unfoldable pub uninstallation : Protocols → ℕ → Guid → ℕ → Result Protocols ProtocolRefusal
uninstallation p number guid interface = uninstalled p number guid (removal p.handles number guid interface)

abbrev pub reinstalled : Protocols → ℕ → Guid → Result Database HandleRefusal → Result (Done Installation) ProtocolRefusal
reinstalled p number guid (Ok d) = if is_held p.handles number guid then Err AccessDenied else Ok (announced p d number guid)
reinstalled p number guid (Err refusal) = Err (refused refusal)

-- ReinstallProtocolInterface
unfoldable pub reinstallation : Protocols → ℕ → Guid → ℕ → ℕ → Result (Done Installation) ProtocolRefusal
reinstallation p number guid old new = reinstalled p number guid (replacement p.handles number guid old new)

abbrev pub opened : Protocols → OpenRequest → Result ℕ ProtocolRefusal → Result (Done ℕ) ProtocolRefusal
opened p r (Ok interface) = Ok (record { answer = interface; after = record p { handles = with_open p.handles r.handle r.guid (entry_of r) } })
opened p r (Err refusal) = Err refusal

-- OpenProtocol
unfoldable pub protocol_opening : Protocols → OpenRequest → Result (Done ℕ) ProtocolRefusal
protocol_opening p r = opened p r (opening p.handles r)

abbrev pub has_between : ℕ → ℕ → Option (List OpenEntry) → Bool
has_between agent controller None = false
has_between agent controller (Some opens) = list_any (is_between agent controller) opens

-- Handle and agent have to be handles, and the controller one or 0.
abbrev pub may_close : Database → ℕ → ℕ → ℕ → Bool
may_close d number agent controller = is_handle d number && (is_handle d agent && (controller == 0 || is_handle d controller))

-- CloseProtocol
unfoldable pub closing : Protocols → ℕ → Guid → ℕ → ℕ → Result Protocols ProtocolRefusal
closing p number guid agent controller =
    if may_close p.handles number agent controller then
    if has_between agent controller (opens_in p.handles number guid) then Ok (record p { handles = reopened p.handles number guid (closed agent controller) }) else Err NotFound
    else Err Invalid

abbrev pub entries_of : Option (List OpenEntry) → Result (List OpenEntry) ProtocolRefusal
entries_of None = Err NotFound
entries_of (Some opens) = Ok opens

-- OpenProtocolInformation
unfoldable pub information : Protocols → ℕ → Guid → Result (List OpenEntry) ProtocolRefusal
information p number guid = if is_handle p.handles number then entries_of (opens_in p.handles number guid) else Err Invalid

-- no more registrations: 256 are live, or 2^60 - 1 were made
abbrev pub is_full : Protocols → Bool
is_full p = nat_le 256 (length p.registrations) || nat_le (2 ^ 60 - 1) p.made

-- A new registration stands last, with no handle pending.
abbrev pub with_registration : Protocols → Guid → ℕ → Protocols
with_registration p guid event = record p { registrations = p.registrations ++ record { number = shown_registration (p.made + 1); guid = guid; event = event; pending = [] } ∷ []; made = p.made + 1 }

-- RegisterProtocolNotify
unfoldable pub registration : Protocols → Guid → ℕ → Result (Done ℕ) ProtocolRefusal
registration p guid event = if is_full p then Err Full else Ok (record { answer = shown_registration (p.made + 1); after = with_registration p guid event })

-- An event that is closed is notified of nothing any more.
unfoldable pub forgotten : Protocols → ℕ → Protocols
forgotten p event = record p { registrations = filter (λ r. not (r.event == event)) p.registrations }

-- A protocol goes whatever its interface and whoever opened it.
unfoldable pub discarded : Protocols → ℕ → Guid → Protocols
discarded p number guid = if is_some (protocol_in p.handles number guid) then withdrawn p (handle_discarded p.handles number guid) number guid else p

-- the protocols of pairs go
abbrev pub all_discarded : Protocols → ℕ → List (Guid × ℕ) → Protocols
all_discarded p number pairs = fold (λ q (pair : Guid × ℕ). discarded q number pair.0) p pairs

-- A pair before has a GUID, which is gone with it.
abbrev pub is_before : List (Guid × ℕ) → Guid → Bool
is_before before guid = list_any (λ (pair : Guid × ℕ). same_guid guid pair.0) before

-- Why a pair isn't taken away after others. The handle is unknown, or has gone with the last of its protocols; or the
-- interface isn't there, or has gone with a pair of its GUID; or an entry keeps it.
unfoldable pub refusal_after : Database → ℕ → List (Guid × ℕ) → Guid × ℕ → Option ProtocolRefusal
refusal_after d number before pair =
    if not (stays_live d number before) then Some Invalid
    else if not (has_interface_in d number pair.0 pair.1) || is_before before pair.0 then Some NotFound
    else if is_held d number pair.0 then Some AccessDenied
    else None

abbrev pub or_later : Option ProtocolRefusal → Option ProtocolRefusal → Option ProtocolRefusal
or_later None later = later
or_later (Some refusal) later = Some refusal

-- the refusal of the first of the pairs that isn't taken away after those before it
unfoldable pub first_refusal : Database → ℕ → List (Guid × ℕ) → List (Guid × ℕ) → Option ProtocolRefusal
first_refusal d number before [] = None
first_refusal d number before (pair ∷ pairs) = or_later (refusal_after d number before pair) (first_refusal d number (before ++ pair ∷ []) pairs)

abbrev pub all_uninstalled : Protocols → ℕ → List (Guid × ℕ) → Option ProtocolRefusal → Result Protocols ProtocolRefusal
all_uninstalled p number pairs None = Ok (all_discarded p number pairs)
all_uninstalled p number pairs (Some refusal) = Err refusal

-- UninstallMultipleProtocolInterfaces: all pairs are taken away, or none.
unfoldable pub uninstallation_of_all : Protocols → ℕ → List (Guid × ℕ) → Result Protocols ProtocolRefusal
uninstallation_of_all p number pairs = all_uninstalled p number pairs (first_refusal p.handles number [] pairs)

-- A call that answers so leads from one state to another. Want of memory may come at any call that takes some; then,
-- as after each refusal, the state is as before.
abbrev pub Gives : {A : Type 0} → Result A ProtocolRefusal → Result (Done A) ProtocolRefusal → Protocols → Protocols → Type 0
Gives (Ok answer) wanted old new = wanted ≡ Ok (record { answer = answer; after = new })
Gives (Err Memory) wanted old new = new ≡ old
Gives (Err Invalid) wanted old new = (wanted ≡ Err Invalid) × (new ≡ old)
Gives (Err NotFound) wanted old new = (wanted ≡ Err NotFound) × (new ≡ old)
Gives (Err Unsupported) wanted old new = (wanted ≡ Err Unsupported) × (new ≡ old)
Gives (Err AccessDenied) wanted old new = (wanted ≡ Err AccessDenied) × (new ≡ old)
Gives (Err AlreadyStarted) wanted old new = (wanted ≡ Err AlreadyStarted) × (new ≡ old)
Gives (Err Full) wanted old new = (wanted ≡ Err Full) × (new ≡ old)

-- A change that takes no memory leads so from one state to another.
abbrev pub ChangeGives : Result (Unit {0}) ProtocolRefusal → Result Protocols ProtocolRefusal → Protocols → Protocols → Type 0
ChangeGives (Ok done) wanted old new = wanted ≡ Ok new
ChangeGives (Err refusal) wanted old new = (wanted ≡ Err refusal) × (new ≡ old)

-- A question that takes memory is refused so.
abbrev pub Refuses : ProtocolRefusal → Result (List OpenEntry) ProtocolRefusal → Type 0
Refuses Memory wanted = Unit {0}
Refuses refusal wanted = wanted ≡ Err refusal
