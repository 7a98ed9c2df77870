-- Stall and SetWatchdogTimer (UEFI 2.10, sections 7.5.2 and 7.5.1), where `x` are the registers of the call and `present`
-- is the moment, in units of 100 ns.
use Rattle.std.specs.Prelude.{ℕ, ◌*◌, List}
use Rattle.uh_base.specs.Statuses.{success}
use Rattle.service_answer.specs.Answers.{Answer, gives}
use Rattle.guest_call.specs.Arguments.{argument}
use Rattle.event_queue.specs.Timers.{later}

-- what Stall comes to, and the moment behind it
pub record StallDone : Type 0 where
  pub served : Answer
  pub moment : ℕ

-- Stall(microseconds): a microsecond has 10 units. The moment stops at 2^64 - 1.
unfoldable pub stall : List ℕ → ℕ → StallDone
stall x present = record { served = gives success; moment = later present (10 * argument 0 x) }

-- SetWatchdogTimer(seconds, code, size, data): there is no watchdog.
unfoldable pub set_watchdog_timer : Answer
set_watchdog_timer = gives success
