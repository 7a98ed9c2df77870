-- Types of events (UEFI 2.10, section 7.1, CreateEvent and CreateEventEx).
use Rattle.std.specs.Prelude.{ℕ, ◌==◌, ◌&&◌, ◌||◌, not, nat_le, bit_and, Bool, true, Option, Some, None, if◌then◌else◌}
use Rattle.uh_base.specs.declared.guid.Guid.{Guid}

-- A number has one of the bits of a mask.
abbrev pub has : ℕ → ℕ → Bool
has bits mask = not (bit_and bits mask == 0)

-- EVT_TIMER, EVT_NOTIFY_WAIT and EVT_NOTIFY_SIGNAL
abbrev pub is_timer : ℕ → Bool
is_timer kind = has kind 0x80000000

abbrev pub is_wait : ℕ → Bool
is_wait kind = has kind 0x100

abbrev pub is_signal : ℕ → Bool
is_signal kind = has kind 0x200

-- its function is notified, by either of the two
abbrev pub notifies : ℕ → Bool
notifies kind = is_wait kind || is_signal kind

-- EVT_SIGNAL_EXIT_BOOT_SERVICES and EVT_SIGNAL_VIRTUAL_ADDRESS_CHANGE name their groups by themselves
abbrev pub names_group : ℕ → Bool
names_group kind = kind == 0x201 || kind == 0x60000202

-- no bits but EVT_TIMER, EVT_RUNTIME and at most one of the two that notify
abbrev pub is_plain : ℕ → Bool
is_plain kind = bit_and kind 0x3ffffcff == 0 && not (is_wait kind && is_signal kind)

abbrev pub is_kind : ℕ → Bool
is_kind kind = names_group kind || is_plain kind

-- a level at which functions are notified: above TPL_APPLICATION and below TPL_HIGH_LEVEL
abbrev pub is_level : ℕ → Bool
is_level tpl = nat_le 5 tpl && nat_le tpl 30

-- what can be notified: a function, at a level
abbrev pub can_notify : ℕ → ℕ → Bool
can_notify function tpl = not (function == 0) && is_level tpl

-- a group is given only to a type that names none
abbrev pub can_group : ℕ → Option Guid → Bool
can_group kind None = true
can_group kind (Some group) = not (names_group kind)

-- a type, level, function and group of which an event can be made
unfoldable pub is_request : ℕ → ℕ → ℕ → Option Guid → Bool
is_request kind tpl function group = is_kind kind && ((not (notifies kind) || can_notify function tpl) && can_group kind group)

-- EFI_EVENT_GROUP_EXIT_BOOT_SERVICES and EFI_EVENT_GROUP_VIRTUAL_ADDRESS_CHANGE
abbrev pub exit_group : Guid
exit_group = record { d1 = 0x27abf055; d2 = 0xb1b8; d3 = 0x4c26; d4 = 0x8048748f37baa2df }

abbrev pub virtual_group : Guid
virtual_group = record { d1 = 0x13fa7698; d2 = 0xc831; d3 = 0x49c7; d4 = 0x87ea8f43fcc25196 }

-- the group of an event of a type, for which a group may have been given
abbrev pub group_for : ℕ → Option Guid → Option Guid
group_for kind group = if kind == 0x201 then Some exit_group else (if kind == 0x60000202 then Some virtual_group else group)
