-- The slot that comes next.
use Rattle.std.proofs.Common.{◌≡◌, true, false, Option, Some, None, refl, ap}
use Rattle.std.specs.Option.{is_some}
use Rattle.event_queue.specs.declared.event.Notify.{Notify}
use Rattle.firmware_core.specs.Frames.{tick_is_due, notice_of}
use Rattle.firmware_core.specs.Turns.{State, counted_next, next_turn}
use Rattle.firmware_core.specs.Calls.{slot_of}
use Rattle.firmware_core.proofs.TurnLemmas.{next_is_tick, next_is_notice, next_is_counted}

pub slot_at_tick : (s : State) → tick_is_due s.firmware ≡ true → slot_of (next_turn s) ≡ None
slot_at_tick s h = ap slot_of (next_is_tick s h)

notice_by : (s : State) → tick_is_due s.firmware ≡ false → (o : Option Notify) → notice_of s.firmware ≡ o → is_some o ≡ true → slot_of (next_turn s) ≡ None
notice_by s h None e k = let bad : ⊥ = cc in absurd bad
notice_by s h (Some n) e k = ap slot_of (next_is_notice s n h e)

pub slot_at_notice : (s : State) → tick_is_due s.firmware ≡ false → is_some (notice_of s.firmware) ≡ true → slot_of (next_turn s) ≡ None
slot_at_notice s h k = notice_by s h (notice_of s.firmware) refl k

none_notice : (o : Option Notify) → is_some o ≡ false → o ≡ None
none_notice None k = refl
none_notice (Some n) k = let bad : ⊥ = cc in absurd bad

pub slot_counted : (s : State) → tick_is_due s.firmware ≡ false → is_some (notice_of s.firmware) ≡ false → slot_of (next_turn s) ≡ slot_of (counted_next s)
slot_counted s h k = ap slot_of (next_is_counted s h (none_notice (notice_of s.firmware) k))
