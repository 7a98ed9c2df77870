-- The services on events and levels, over the parts that each reads and changes.
use Rattle.std.specs.Prelude.{ℕ, ◌==◌, Option, Some, None, if◌then◌else◌}
use Rattle.address_view.specs.Windows.{see}
use Rattle.record_text.specs.declared.cause.Cause.TheVariants as causes
use Rattle.event_services.specs.declared.awaited.Awaited.{Awaited}
use Rattle.event_services.specs.declared.awaited.Awaited.TheVariants as awaited
use Rattle.event_services.specs.declared.level.LevelSet.{LevelSet}
use Rattle.event_services.specs.Levels.{raise_tpl, restore_tpl}
use Rattle.event_services.specs.Clock.{stall, set_watchdog_timer}
use Rattle.event_services.specs.Changes.{set_timer, signal_event, close_event}
use Rattle.event_services.specs.Creation.{create_event, create_event_ex}
use Rattle.event_services.specs.Notices.{register_protocol_notify}
use Rattle.event_services.specs.Checks.{check_event, check_event_notified}
use Rattle.event_services.specs.Waits.{wait_for_event, wait_anew, wait_for_signal}
use Rattle.firmware_core.specs.declared.frame.Phase.{Phase}
use Rattle.firmware_core.specs.declared.frame.Phase.TheVariants.{Called, Notified, Renewed}
use Rattle.firmware_core.specs.declared.event_service.EventService.{EventService}
use Rattle.firmware_core.specs.declared.event_service.EventService.TheVariants as services
use Rattle.firmware_core.specs.declared.conclusion.Conclusion.{Conclusion}
use Rattle.firmware_core.specs.declared.conclusion.Conclusion.TheVariants.{Answers, Continues, Halts}
use Rattle.firmware_core.specs.Parts.{Parts}
use Rattle.firmware_core.specs.Services.{Concluded, with_memory, with_level, served}

-- ---- levels

-- A level that goes the wrong way, or is none, halts the run.
abbrev pub level_set : Parts → Option LevelSet → Concluded
level_set f None = record { conclusion = Halts causes.Tpl; firmware = f }
level_set f (Some set) = record { conclusion = Answers set.value; firmware = with_level f set.tpl }

unfoldable pub at_raise_tpl : Parts → Concluded
at_raise_tpl f = level_set f (raise_tpl f.hart.x f.hart.tpl)

unfoldable pub at_restore_tpl : Parts → Concluded
at_restore_tpl f = level_set f (restore_tpl f.hart.x f.hart.tpl)

-- ---- events

unfoldable pub at_create_event : Parts → Concluded
at_create_event f =
    let done = create_event f.hart.x (see f.runtime.view) f.runtime.memory f.events in
    record { conclusion = served done.served; firmware = record (with_memory f done.memory) { events = done.events } }

unfoldable pub at_create_event_ex : Parts → Concluded
at_create_event_ex f =
    let done = create_event_ex f.hart.x (see f.runtime.view) f.runtime.memory f.events in
    record { conclusion = served done.served; firmware = record (with_memory f done.memory) { events = done.events } }

unfoldable pub at_set_timer : Parts → Concluded
at_set_timer f = let done = set_timer f.hart.x f.time f.events in record { conclusion = served done.served; firmware = record f { events = done.events } }

unfoldable pub at_signal_event : Parts → Concluded
at_signal_event f = let done = signal_event f.hart.x f.events in record { conclusion = served done.served; firmware = record f { events = done.events } }

unfoldable pub at_close_event : Parts → Concluded
at_close_event f =
    let done = close_event f.hart.x f.events f.protocols in
    record { conclusion = served done.served; firmware = record f { events = done.events; protocols = done.protocols } }

unfoldable pub at_register_protocol_notify : Parts → Concluded
at_register_protocol_notify f =
    let done = register_protocol_notify f.hart.x (see f.runtime.view) f.runtime.memory f.events f.protocols in
    record { conclusion = served done.served; firmware = record (with_memory f done.memory) { protocols = done.protocols } }

-- ---- services that come in several turns

-- Where it goes on, the service comes again in its next phase.
abbrev pub phase_set : Parts → Phase → Awaited → Parts
phase_set f phase awaited.GoesOn = record f { hart = record f.hart { phase = phase } }
phase_set f phase answer = f

abbrev pub awaited_to : Awaited → Conclusion
awaited_to (awaited.Answers a0) = Answers a0
awaited_to awaited.GoesOn = Continues
awaited_to awaited.LacksFrames = Halts causes.Frames
awaited_to awaited.Idle = Halts causes.Idle

-- CheckEvent asks again behind the notification that it queued.
abbrev pub check_by : Phase → Parts → Concluded
check_by Called f =
    let done = check_event f.hart.x f.events in record { conclusion = awaited_to done.answer; firmware = phase_set (record f { events = done.events }) Notified done.answer }
check_by later f =
    let done = check_event_notified f.hart.x f.events in record { conclusion = awaited_to done.answer; firmware = phase_set (record f { events = done.events }) Notified done.answer }

unfoldable pub at_check_event : Parts → Concluded
at_check_event f = check_by f.hart.phase f

-- WaitForEvent checks its events, then waits for a signal behind the notifications that it queued, and begins anew where time
-- has passed to a timer.
abbrev pub wait_by : Phase → Parts → Concluded
wait_by Called f =
    let done = wait_for_event f.hart.x f.hart.tpl (see f.runtime.view) f.runtime.memory f.events in
    record { conclusion = awaited_to done.answer; firmware = phase_set (record (with_memory f done.memory) { events = done.events }) Notified done.answer }
wait_by Renewed f =
    let done = wait_anew f.hart.x (see f.runtime.view) f.runtime.memory f.events in
    record { conclusion = awaited_to done.answer; firmware = phase_set (record (with_memory f done.memory) { events = done.events }) Notified done.answer }
wait_by Notified f =
    let done = wait_for_signal f.hart.x (see f.runtime.view) f.runtime.memory f.events f.time in
    record { conclusion = awaited_to done.answer; firmware = phase_set (record (with_memory f done.memory) { events = done.events; time = done.moment }) Renewed done.answer }

unfoldable pub at_wait_for_event : Parts → Concluded
at_wait_for_event f = wait_by f.hart.phase f

-- ---- time

unfoldable pub at_stall : Parts → Concluded
at_stall f = let done = stall f.hart.x f.time in record { conclusion = served done.served; firmware = record f { time = done.moment } }

-- ---- the choice

-- the service on events or levels of a slot
unfoldable pub event_service_of : ℕ → Option EventService
event_service_of slot =
    if slot == 0 then Some services.RaiseTpl
    else (if slot == 1 then Some services.RestoreTpl
    else (if slot == 7 then Some services.CreateEvent
    else (if slot == 8 then Some services.SetTimer
    else (if slot == 9 then Some services.WaitForEvent
    else (if slot == 10 then Some services.SignalEvent
    else (if slot == 11 then Some services.CloseEvent
    else (if slot == 12 then Some services.CheckEvent
    else (if slot == 18 then Some services.RegisterProtocolNotify
    else (if slot == 28 then Some services.Stall
    else (if slot == 29 then Some services.SetWatchdogTimer
    else (if slot == 43 then Some services.CreateEventEx
    else None)))))))))))

unfoldable pub serve_event : EventService → Parts → Concluded
serve_event services.RaiseTpl f = at_raise_tpl f
serve_event services.RestoreTpl f = at_restore_tpl f
serve_event services.CreateEvent f = at_create_event f
serve_event services.SetTimer f = at_set_timer f
serve_event services.WaitForEvent f = at_wait_for_event f
serve_event services.SignalEvent f = at_signal_event f
serve_event services.CloseEvent f = at_close_event f
serve_event services.CheckEvent f = at_check_event f
serve_event services.RegisterProtocolNotify f = at_register_protocol_notify f
serve_event services.Stall f = at_stall f
serve_event services.SetWatchdogTimer f = record { conclusion = served set_watchdog_timer; firmware = f }
serve_event services.CreateEventEx f = at_create_event_ex f
