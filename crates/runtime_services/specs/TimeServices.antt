-- GetTime, SetTime, GetWakeupTime and SetWakeupTime (UEFI 2.10, section 8.3), where `see` is the place that each address
-- shows, `x` are the registers of the call, and `now` is the time of the host in units of 100 nanoseconds.
use Rattle.std.specs.Prelude.{ℕ, ◌&&◌, List, [], ◌∷◌, ◌++◌, Option, Some, None, if◌then◌else◌}
use Rattle.std.specs.Int.{w32, to_le_bytes}
use Rattle.uh_base.specs.Statuses.{success, invalid_parameter, unsupported, device_error}
use Rattle.guest_memory.specs.Pages.{Pages, bytes_of}
use Rattle.guest_memory.specs.Runs.{bytes_from}
use Rattle.address_view.specs.Windows.{seen_bytes}
use Rattle.time_service.specs.declared.efi_time.EfiTime.{EfiTime}
use Rattle.time_service.specs.Times.{time_of}
use Rattle.time_service.specs.Times as times
use Rattle.time_service.specs.Clocks.{ClockState, set_to, moment_of}
use Rattle.guest_call.specs.Arguments.{argument}
use Rattle.guest_call.specs.Checks.{can_write, can_read}
use Rattle.guest_call.specs.Outputs.{can_write_optional}
use Rattle.runtime_services.specs.Outputs.{MemoryDone, told, refused, unless_zero}

-- EFI_TIME_CAPABILITIES: units a second, the accuracy, and four bytes of which the first says that a set clears what is
-- below the unit
abbrev pub capability_bytes : List ℕ
capability_bytes = to_le_bytes w32 10_000_000 ++ (to_le_bytes w32 0 ++ (0 ∷ 0 ∷ 0 ∷ 0 ∷ []))

abbrev pub time_given : (ℕ → Option ℕ) → Pages → ℕ → ℕ → EfiTime → MemoryDone
time_given see m at capabilities time = told see m success (record { at = at; bytes = times.bytes_of time } ∷ unless_zero capabilities capability_bytes ∷ [])

-- The clock shows nothing after 9999, and then nothing is written.
abbrev pub time_if : (ℕ → Option ℕ) → Pages → ℕ → ℕ → Option EfiTime → MemoryDone
time_if see m at capabilities None = refused m device_error
time_if see m at capabilities (Some time) = time_given see m at capabilities time

-- GetTime(*time16, ?capabilities12)
unfoldable pub get_time : List ℕ → (ℕ → Option ℕ) → Pages → ClockState → ℕ → MemoryDone
get_time x see m clock now =
    if can_write see m (argument 0 x) 16 && can_write_optional see m (argument 1 x) 12
    then time_if see m (argument 0 x) (argument 1 x) (moment_of clock now)
    else refused m invalid_parameter

-- the status that SetTime gives, and the clock behind it
pub record ClockDone : Type 0 where
  pub status : ℕ
  pub clock : ClockState

-- The clock is set to a valid time.
abbrev pub set_if : ClockState → ℕ → Option EfiTime → ClockDone
set_if clock now None = record { status = invalid_parameter; clock = clock }
set_if clock now (Some time) = record { status = success; clock = set_to now time }

-- SetTime(*time16)
unfoldable pub set_time : List ℕ → (ℕ → Option ℕ) → Pages → ClockState → ℕ → ClockDone
set_time x see m clock now =
    if can_read see m (argument 0 x) 16
    then set_if clock now (time_of (bytes_from (seen_bytes see (bytes_of m)) (argument 0 x) 16))
    else record { status = invalid_parameter; clock = clock }

-- GetWakeupTime and SetWakeupTime: there is no alarm
abbrev pub get_wakeup_time : ℕ
get_wakeup_time = unsupported

abbrev pub set_wakeup_time : ℕ
set_wakeup_time = unsupported
