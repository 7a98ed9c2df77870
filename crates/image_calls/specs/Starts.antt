-- StartImage (UEFI 2.10, section 7.4.2), where `see` is the place that each address shows and `x` are the registers of the
-- call.
use Rattle.std.specs.Prelude.{ℕ, ◌&&◌, List, [], ◌∷◌, Option, Some, None, Result, Ok, Err, if◌then◌else◌}
use Rattle.uh_base.specs.declared.status.EfiStatus.{EfiStatus}
use Rattle.uh_base.specs.Statuses.{invalid_parameter}
use Rattle.guest_memory.specs.Pages.{Pages}
use Rattle.address_view.specs.Stored.{store_seen}
use Rattle.address_view.specs.Ranges.{lacks_ranges}
use Rattle.guest_call.specs.Arguments.{argument}
use Rattle.guest_call.specs.Checks.{can_write}
use Rattle.guest_call.specs.Outputs.{can_write_optional}
use Rattle.service_answer.specs.Answers.{Answer, gives, lacks_frames}
use Rattle.image_services.specs.Images.{Loaded, find_image}

abbrev pub invalid : EfiStatus
invalid = record { 0 = invalid_parameter }

-- the entry point of an image that wasn't started
abbrev pub entry_of : Option Loaded → Result ℕ EfiStatus
entry_of None = Err invalid
entry_of (Some image) = if image.started then Err invalid else Ok image.entry

-- StartImage(image, ?size8, ?data8), as it begins: each output may be left out, and else may be written.
unfoldable pub start_asked : List ℕ → (ℕ → Option ℕ) → Pages → List Loaded → Result ℕ EfiStatus
start_asked x see m images =
    if can_write_optional see m (argument 1 x) 8 && can_write_optional see m (argument 2 x) 8 then entry_of (find_image images (argument 0 x))
    else Err invalid

-- what it comes to once its image has ended, and the memory behind it
pub record StartDone : Type 0 where
  pub served : Answer
  pub memory : Pages

-- How many bytes of an output are written: none where it is left out, and none where not all of its bytes may be written
-- by now, since the image may have gone and its pages with it.
abbrev pub written_bytes : (ℕ → Option ℕ) → Pages → ℕ → ℕ
written_bytes see m at = if can_write see m at 8 then 8 else 0

-- The size and the address of the exit data are written. Where that would touch more than 65,536 pages, nothing changes.
unfoldable pub outputs_given : List ℕ → (ℕ → Option ℕ) → Pages → ℕ → ℕ → ℕ → StartDone
outputs_given x see m status size exit_data =
    let first = argument 1 x in
    let second = argument 2 x in
    let first_bytes = written_bytes see m first in
    let second_bytes = written_bytes see m second in
    if lacks_ranges see m (record { at = first; len = first_bytes } ∷ record { at = second; len = second_bytes } ∷ [])
    then record { served = lacks_frames; memory = m }
    else record { served = gives status; memory = store_seen see (store_seen see m first first_bytes size) second second_bytes exit_data }
