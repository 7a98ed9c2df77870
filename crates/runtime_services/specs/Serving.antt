-- The runtime services over all the parts that they read or change: `x` are the registers of the call, `see` is the place
-- that each address shows, `now` is the time of the host in units of 100 nanoseconds, and `gone` says that boot services
-- are over.
use Rattle.std.specs.Prelude.{ℕ, List, Bool, Option, Some, None}
use Rattle.uh_base.specs.Statuses.{unsupported}
use Rattle.guest_memory.specs.Pages.{Pages}
use Rattle.variable_store.specs.Entries.{Entry}
use Rattle.time_service.specs.Clocks.{ClockState}
use Rattle.service_answer.specs.Answers.{Answer, gives}
use Rattle.runtime_services.specs.declared.service.RuntimeService.{RuntimeService}
use Rattle.runtime_services.specs.declared.service.RuntimeService.TheVariants as services
use Rattle.runtime_services.specs.Slots.{service_of}
use Rattle.runtime_services.specs.Capsules.{update_capsule, query_capsule_capabilities}
use Rattle.runtime_services.specs.Counts.{CountDone, get_next_monotonic_count, get_next_high_monotonic_count}
use Rattle.runtime_services.specs.Outputs.{MemoryDone}
use Rattle.runtime_services.specs.GetVariable.{get_variable}
use Rattle.runtime_services.specs.NextName.{get_next_variable_name}
use Rattle.runtime_services.specs.SetVariable.{VariablesDone, set_variable}
use Rattle.runtime_services.specs.VariableInfo.{query_variable_info}
use Rattle.runtime_services.specs.TimeServices.{ClockDone, get_time, set_time, get_wakeup_time, set_wakeup_time}

-- what a service comes to, and the parts behind it
pub record RuntimeDone : Type 0 where
  pub answer : Answer
  pub memory : Pages
  pub variables : List Entry
  pub clock : ClockState
  pub count : ℕ

-- A status is given, and nothing changes.
abbrev pub with_status : ℕ → Pages → List Entry → ClockState → ℕ → RuntimeDone
with_status status m variables clock count = record { answer = gives status; memory = m; variables = variables; clock = clock; count = count }

-- Variables, clock and count stay.
abbrev pub with_memory : MemoryDone → List Entry → ClockState → ℕ → RuntimeDone
with_memory done variables clock count = record { answer = done.answer; memory = done.memory; variables = variables; clock = clock; count = count }

-- Memory, variables and count stay.
abbrev pub with_clock : ClockDone → Pages → List Entry → ℕ → RuntimeDone
with_clock done m variables count = with_status done.status m variables done.clock count

-- Memory, clock and count stay.
abbrev pub with_variables : VariablesDone → Pages → ClockState → ℕ → RuntimeDone
with_variables done m clock count = with_status done.status m done.variables clock count

-- Variables and clock stay.
abbrev pub with_count : CountDone → List Entry → ClockState → RuntimeDone
with_count done variables clock = record { answer = done.answer; memory = done.memory; variables = variables; clock = clock; count = done.count }

-- what a service comes to
abbrev pub served_by : RuntimeService → List ℕ → (ℕ → Option ℕ) → Pages → List Entry → ClockState → ℕ → ℕ → Bool → RuntimeDone
served_by services.GetNextMonotonicCount x see m variables clock count now gone = with_count (get_next_monotonic_count x see m count) variables clock
served_by services.GetTime x see m variables clock count now gone = with_memory (get_time x see m clock now) variables clock count
served_by services.SetTime x see m variables clock count now gone = with_clock (set_time x see m clock now) m variables count
served_by services.GetWakeupTime x see m variables clock count now gone = with_status get_wakeup_time m variables clock count
served_by services.SetWakeupTime x see m variables clock count now gone = with_status set_wakeup_time m variables clock count
served_by services.GetVariable x see m variables clock count now gone = with_memory (get_variable x see m variables gone) variables clock count
served_by services.GetNextVariableName x see m variables clock count now gone = with_memory (get_next_variable_name x see m variables gone) variables clock count
served_by services.SetVariable x see m variables clock count now gone = with_variables (set_variable x see m variables gone) m clock count
served_by services.GetNextHighMonotonicCount x see m variables clock count now gone = with_count (get_next_high_monotonic_count x see m count) variables clock
served_by services.UpdateCapsule x see m variables clock count now gone = with_status (update_capsule x) m variables clock count
served_by services.QueryCapsuleCapabilities x see m variables clock count now gone = with_status query_capsule_capabilities m variables clock count
served_by services.QueryVariableInfo x see m variables clock count now gone = with_memory (query_variable_info x see m variables) variables clock count

-- Any other slot isn't served.
abbrev pub served_if : Option RuntimeService → List ℕ → (ℕ → Option ℕ) → Pages → List Entry → ClockState → ℕ → ℕ → Bool → RuntimeDone
served_if (Some service) x see m variables clock count now gone = served_by service x see m variables clock count now gone
served_if None x see m variables clock count now gone = with_status unsupported m variables clock count

-- what the service of a slot comes to
unfoldable pub serve_runtime : ℕ → List ℕ → (ℕ → Option ℕ) → Pages → List Entry → ClockState → ℕ → ℕ → Bool → RuntimeDone
serve_runtime slot x see m variables clock count now gone = served_if (service_of slot) x see m variables clock count now gone
