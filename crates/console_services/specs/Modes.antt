-- QueryMode (UEFI 2.10, 12.4.5), where `see` is the place that each address shows and `x` are the registers of the call.
use Rattle.std.specs.Prelude.{ℕ, ◌==◌, ◌&&◌, Bool, List, [], ◌∷◌, Option, if◌then◌else◌}
use Rattle.uh_base.specs.Statuses.{success, invalid_parameter, unsupported}
use Rattle.guest_memory.specs.Pages.{Pages}
use Rattle.address_view.specs.declared.frames.ByteRange.{ByteRange}
use Rattle.address_view.specs.Ranges.{lacks_ranges}
use Rattle.address_view.specs.Stored.{store_seen}
use Rattle.guest_call.specs.declared.answer.Answer.{Answer}
use Rattle.guest_call.specs.declared.answer.Answer.TheVariants.{Gives, LacksFrames}
use Rattle.guest_call.specs.Arguments.{argument}
use Rattle.guest_call.specs.Checks.{can_write}

-- mode 0, which each console has, is of 80 columns and 25 rows
abbrev pub mode_columns : ℕ
mode_columns = 80

abbrev pub mode_rows : ℕ
mode_rows = 25

-- what is answered, and the memory behind it
pub record ModeDone : Type 0 where
  pub answer : Answer
  pub memory : Pages

abbrev pub are_outputs : (ℕ → Option ℕ) → Pages → ℕ → ℕ → Bool
are_outputs see m columns rows = can_write see m columns 8 && can_write see m rows 8

abbrev pub columns_written : (ℕ → Option ℕ) → Pages → ℕ → Pages
columns_written see m columns = store_seen see m columns 8 mode_columns

abbrev pub size_written : (ℕ → Option ℕ) → Pages → ℕ → ℕ → Pages
size_written see m columns rows = store_seen see (columns_written see m columns) rows 8 mode_rows

-- Where both outputs together would touch more than 65,536 pages, nothing changes.
abbrev pub size_told : (ℕ → Option ℕ) → Pages → ℕ → ℕ → ModeDone
size_told see m columns rows =
    if lacks_ranges see m (record { at = columns; len = 8 } ∷ record { at = rows; len = 8 } ∷ []) then record { answer = LacksFrames; memory = m }
    else record { answer = Gives success; memory = size_written see m columns rows }

abbrev pub by_mode : (ℕ → Option ℕ) → Pages → ℕ → ℕ → ℕ → ModeDone
by_mode see m mode columns rows = if mode == 0 then size_told see m columns rows else record { answer = Gives unsupported; memory = m }

-- QueryMode(this, mode, *columns8, *rows8)
unfoldable pub query_mode : List ℕ → (ℕ → Option ℕ) → Pages → ModeDone
query_mode x see m =
    if are_outputs see m (argument 2 x) (argument 3 x) then by_mode see m (argument 1 x) (argument 2 x) (argument 3 x)
    else record { answer = Gives invalid_parameter; memory = m }
