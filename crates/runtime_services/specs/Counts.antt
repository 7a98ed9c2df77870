-- The monotonic count: GetNextMonotonicCount and GetNextHighMonotonicCount (UEFI 2.10, sections 7.5.5 and 8.5.2), where
-- `see` is the place that each address shows and `x` are the registers of the call.
use Rattle.std.specs.Prelude.{ℕ, ◌+◌, ◌*◌, ◌/◌, ◌%◌, ◌^◌, List, [], ◌∷◌, Option, if◌then◌else◌}
use Rattle.std.specs.Int.{w32, w64, to_le_bytes}
use Rattle.uh_base.specs.Statuses.{success, invalid_parameter}
use Rattle.guest_memory.specs.Pages.{Pages}
use Rattle.service_answer.specs.Answers.{Answer, gives}
use Rattle.guest_call.specs.Arguments.{argument}
use Rattle.guest_call.specs.Checks.{can_write}
use Rattle.runtime_services.specs.Outputs.{MemoryDone, told}

-- what a service comes to, and the memory and the count behind it
pub record CountDone : Type 0 where
  pub answer : Answer
  pub memory : Pages
  pub count : ℕ

-- A call that lacks frames leaves the count.
abbrev pub counted : MemoryDone → ℕ → ℕ → CountDone
counted done before after = record { answer = done.answer; memory = done.memory; count = if done.answer.frames then before else after }

-- the count after one more
abbrev pub next_count : ℕ → ℕ
next_count count = (count + 1) % 2 ^ 64

-- the high half of the count, risen by one
abbrev pub next_high : ℕ → ℕ
next_high count = (count / 2 ^ 32 + 1) % 2 ^ 32

-- GetNextMonotonicCount(*count8)
unfoldable pub get_next_monotonic_count : List ℕ → (ℕ → Option ℕ) → Pages → ℕ → CountDone
get_next_monotonic_count x see m count =
    if can_write see m (argument 0 x) 8
    then counted (told see m success (record { at = argument 0 x; bytes = to_le_bytes w64 (next_count count) } ∷ [])) count (next_count count)
    else record { answer = gives invalid_parameter; memory = m; count = count }

-- GetNextHighMonotonicCount(*high4): the low half becomes 0, and the high half is written
unfoldable pub get_next_high_monotonic_count : List ℕ → (ℕ → Option ℕ) → Pages → ℕ → CountDone
get_next_high_monotonic_count x see m count =
    if can_write see m (argument 0 x) 4
    then counted (told see m success (record { at = argument 0 x; bytes = to_le_bytes w32 (next_high count) } ∷ [])) count (next_high count * 2 ^ 32)
    else record { answer = gives invalid_parameter; memory = m; count = count }
