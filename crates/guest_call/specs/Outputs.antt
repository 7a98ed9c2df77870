-- Outputs of a call, where `see` is the place that each address shows.
use Rattle.std.specs.Prelude.{ℕ, ◌==◌, ◌||◌, Bool, Option, if◌then◌else◌}
use Rattle.guest_memory.specs.Pages.{Pages}
use Rattle.guest_call.specs.Checks.{can_write}

-- An output that may be left out is left out at address 0: whether the others may be written, and how many bytes of so
-- many are.
unfoldable pub can_write_optional : (ℕ → Option ℕ) → Pages → ℕ → ℕ → Bool
can_write_optional see m at len = at == 0 || can_write see m at len

abbrev pub optional : ℕ → ℕ → ℕ
optional at len = if at == 0 then 0 else len
