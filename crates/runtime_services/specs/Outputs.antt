-- Outputs of a call, where `see` is the place that each address shows.
use Rattle.std.specs.Prelude.{ℕ, ◌≡◌, true, ◌==◌, List, [], ◌∷◌, length, map, Option, if◌then◌else◌}
use Rattle.guest_memory.specs.Pages.{Pages}
use Rattle.address_view.specs.declared.frames.ByteRange.{ByteRange}
use Rattle.address_view.specs.Ranges.{lacks_ranges}
use Rattle.address_view.specs.Seen.{all_pass, is_seen}
use Rattle.address_view.specs.Stored.{stored, all_touched}
use Rattle.service_answer.specs.Answers.{Answer, gives, lacks_frames}

-- bytes that are written at an address
pub record OutputBytes : Type 0 where
  pub at : ℕ
  pub bytes : List ℕ

-- an output, unless its address is 0
abbrev pub unless_zero : ℕ → List ℕ → OutputBytes
unless_zero at bytes = record { at = at; bytes = if at == 0 then [] else bytes }

-- where an output lies
abbrev pub range_of : OutputBytes → ByteRange
range_of output = record { at = output.at; len = length output.bytes }

-- each byte of each output is seen
abbrev pub OutputsSeen : (ℕ → Option ℕ) → Pages → List OutputBytes → Type 0
OutputsSeen see m [] = Unit {0}
OutputsSeen see m (output ∷ outputs) = (all_pass (is_seen see m) output.at (length output.bytes) ≡ true) × OutputsSeen see m outputs

-- each page of each output is touched
abbrev pub OutputsTouched : (ℕ → Option ℕ) → Pages → List OutputBytes → Type 0
OutputsTouched see m [] = Unit {0}
OutputsTouched see m (output ∷ outputs) = (all_touched see m output.at (length output.bytes) ≡ true) × OutputsTouched see m outputs

-- the memory with outputs written one after another
unfoldable pub outputs_written : (ℕ → Option ℕ) → Pages → List OutputBytes → Pages
outputs_written see m [] = m
outputs_written see m (output ∷ outputs) = outputs_written see (stored see m output.at output.bytes) outputs

-- what a service comes to that changes memory alone
pub record MemoryDone : Type 0 where
  pub answer : Answer
  pub memory : Pages

-- A value is given, and outputs are written. Where all of them together would touch more than 65,536 pages, nothing
-- changes.
abbrev pub told : (ℕ → Option ℕ) → Pages → ℕ → List OutputBytes → MemoryDone
told see m value outputs =
    if lacks_ranges see m (map range_of outputs) then record { answer = lacks_frames; memory = m } else record { answer = gives value; memory = outputs_written see m outputs }

-- A status is given, and nothing changes.
abbrev pub refused : Pages → ℕ → MemoryDone
refused m status = record { answer = gives status; memory = m }
