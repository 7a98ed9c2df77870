-- CreateEvent and CreateEventEx (UEFI 2.10, sections 7.1.1 and 7.1.2), where `see` is the place that each address shows
-- and `x` are the registers of the call.
use Rattle.std.specs.Prelude.{ℕ, ◌==◌, ◌&&◌, List, Option, Some, None, Result, Ok, Err, if◌then◌else◌}
use Rattle.uh_base.specs.declared.guid.Guid.{Guid}
use Rattle.uh_base.specs.Statuses.{success, invalid_parameter}
use Rattle.guest_memory.specs.Pages.{Pages}
use Rattle.address_view.specs.Stored.{lacks_seen, store_seen}
use Rattle.service_answer.specs.Answers.{Answer, gives, lacks_frames}
use Rattle.guest_call.specs.Arguments.{argument, low_word}
use Rattle.guest_call.specs.Checks.{can_write}
use Rattle.event_queue.specs.Queue.{EventList}
use Rattle.event_queue.specs.Calls.{creation, after_creation}
use Rattle.event_queue.specs.declared.refusal.EventRefusal.{EventRefusal}
use Rattle.guest_call.specs.Inputs.{can_read_optional, guid_seen}
use Rattle.event_services.specs.Changes.{event_status}

-- what a creation comes to, and the memory and the events behind it
pub record CreateDone : Type 0 where
  pub served : Answer
  pub memory : Pages
  pub events : EventList

-- the number that an event would get, of the type, level and function of a call (type, tpl, function, context, ..)
abbrev pub creation_asked : List ℕ → EventList → Option Guid → Result ℕ EventRefusal
creation_asked x s group = creation s (low_word (argument 0 x)) (argument 1 x) (argument 2 x) group

-- the events with that one
abbrev pub event_made : List ℕ → EventList → Option Guid → EventList
event_made x s group = after_creation (creation_asked x s group) s (low_word (argument 0 x)) (argument 1 x) (argument 2 x) (argument 3 x) group

-- The event's number is written at an output, and the event is made. Where that would touch more than 65,536 pages,
-- nothing changes.
abbrev pub event_given : List ℕ → (ℕ → Option ℕ) → Pages → EventList → Option Guid → ℕ → Result ℕ EventRefusal → CreateDone
event_given x see m s group at (Ok number) =
    if lacks_seen see m at 8 then record { served = lacks_frames; memory = m; events = s }
    else record { served = gives success; memory = store_seen see m at 8 number; events = event_made x s group }
event_given x see m s group at (Err refusal) = record { served = gives (event_status refusal); memory = m; events = s }

-- CreateEvent(type, tpl, function, context, *event8)
unfoldable pub create_event : List ℕ → (ℕ → Option ℕ) → Pages → EventList → CreateDone
create_event x see m s =
    if can_write see m (argument 4 x) 8 then event_given x see m s None (argument 4 x) (creation_asked x s None)
    else record { served = gives invalid_parameter; memory = m; events = s }

-- the group that a call brings, none at address 0
abbrev pub group_seen : (ℕ → Option ℕ) → Pages → ℕ → Option Guid
group_seen see m at = if at == 0 then None else Some (guid_seen see m at)

-- CreateEventEx(type, tpl, function, context, ?group16, *event8)
unfoldable pub create_event_ex : List ℕ → (ℕ → Option ℕ) → Pages → EventList → CreateDone
create_event_ex x see m s =
    if can_read_optional see m (argument 4 x) 16 && can_write see m (argument 5 x) 8
    then event_given x see m s (group_seen see m (argument 4 x)) (argument 5 x) (creation_asked x s (group_seen see m (argument 4 x)))
    else record { served = gives invalid_parameter; memory = m; events = s }
