-- The rules of opening (UEFI 2.10, section 7.3, OpenProtocol).
use Rattle.std.specs.Prelude.{ℕ, ◌==◌, ◌&&◌, ◌||◌, not, bit_and, Bool, false, List, Option, Some, None, Result, Ok, Err, nat_le, if◌then◌else◌}
use Rattle.std.specs.List.{list_any}
use Rattle.uh_base.specs.declared.guid.Guid.{Guid}
use Rattle.handle_db.specs.declared.entry.OpenEntry.{OpenEntry}
use Rattle.handle_db.specs.Database.{Protocol, Database, is_handle, protocol_in, opens_in, is_like}
use Rattle.protocol_db.specs.declared.request.OpenRequest.{OpenRequest}
use Rattle.protocol_db.specs.declared.refusal.ProtocolRefusal.{ProtocolRefusal}
use Rattle.protocol_db.specs.declared.refusal.ProtocolRefusal.TheVariants.{Invalid, Unsupported, AccessDenied, AlreadyStarted}

-- BY_HANDLE_PROTOCOL 1, GET_PROTOCOL 2, TEST_PROTOCOL 4, BY_CHILD_CONTROLLER 8, BY_DRIVER 0x10, EXCLUSIVE 0x20, and
-- BY_DRIVER with EXCLUSIVE
abbrev pub is_attribute : ℕ → Bool
is_attribute a = a == 1 || (a == 2 || (a == 4 || (a == 8 || (a == 0x10 || (a == 0x20 || a == 0x30)))))

-- The agent has to be a handle, and the controller.
abbrev pub asks_agent : ℕ → Bool
asks_agent a = nat_le 8 a

abbrev pub asks_controller : ℕ → Bool
asks_controller a = a == 8 || (a == 0x10 || a == 0x30)

-- An open by a driver.
abbrev pub is_by_driver : ℕ → Bool
is_by_driver a = a == 0x10 || a == 0x30

-- An open that lets no other such be there: by a driver, or exclusive.
abbrev pub is_alone : ℕ → Bool
is_alone a = not (bit_and a 0x30 == 0)

-- An entry that keeps an interface from being taken away: by a child controller, by a driver, or exclusive.
abbrev pub is_holding : ℕ → Bool
is_holding a = not (bit_and a 0x38 == 0)

-- the entry of one open
abbrev pub entry_of : OpenRequest → OpenEntry
entry_of r = record { agent = r.agent; controller = r.controller; attributes = r.attributes; count = 1 }

-- The handle, the attribute, the agent and the controller are asked for, in this order.
abbrev pub is_askable : Database → OpenRequest → Bool
is_askable d r =
    is_handle d r.handle
    && (is_attribute r.attributes
    && ((not (asks_agent r.attributes) || is_handle d r.agent)
    && ((not (asks_controller r.attributes) || is_handle d r.controller)
    && not (r.attributes == 8 && r.controller == r.handle))))

-- Then the entries that are there are judged.
abbrev pub judged : OpenRequest → Option Protocol → Result ℕ ProtocolRefusal
judged r None = Err Unsupported
judged r (Some protocol) =
    if is_by_driver r.attributes && list_any (is_like (entry_of r)) protocol.opens then Err AlreadyStarted
    else if is_alone r.attributes && list_any (λ e. is_alone e.attributes) protocol.opens then Err AccessDenied
    else Ok protocol.interface

-- the interface that an open gives, or why it is refused
unfoldable pub opening : Database → OpenRequest → Result ℕ ProtocolRefusal
opening d r = if is_askable d r then judged r (protocol_in d r.handle r.guid) else Err Invalid

abbrev pub holds_any : Option (List OpenEntry) → Bool
holds_any None = false
holds_any (Some opens) = list_any (λ e. is_holding e.attributes) opens

-- An entry keeps the protocol of a handle from being taken away.
unfoldable pub is_held : Database → ℕ → Guid → Bool
is_held d number guid = holds_any (opens_in d number guid)
