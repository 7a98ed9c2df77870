-- CopyMem, SetMem and CalculateCrc32 (UEFI 2.10, sections 7.5.3, 7.5.4 and 7.5.7), where `see` is the place that each
-- address shows and `x` are the registers of the call.
use Rattle.std.specs.Prelude.{ℕ, ◌==◌, ◌%◌, ◌&&◌, not, List, replicate, length, Option, if◌then◌else◌}
use Rattle.uh_base.specs.Statuses.{success, invalid_parameter}
use Rattle.uh_base.specs.Crc.{crc_of}
use Rattle.guest_memory.specs.Pages.{Pages, bytes_of, rights_at}
use Rattle.guest_memory.specs.Runs.{bytes_from}
use Rattle.rv_step.specs.declared.bus.Access.TheVariants.{Load, Store}
use Rattle.address_view.specs.Windows.{seen_bytes}
use Rattle.address_view.specs.Seen.{all_pass, view_allows}
use Rattle.address_view.specs.Stored.{lacks_seen, stored}
use Rattle.guest_call.specs.declared.answer.Answer.TheVariants.{Gives, LacksFrames}
use Rattle.guest_call.specs.Arguments.{argument}
use Rattle.guest_call.specs.Checks.{can_write, can_read_buffer}
use Rattle.memory_services.specs.Ram.{MemoryDone, number_written}

-- Bytes are stored. Where that would touch more than 65,536 pages, nothing changes.
abbrev pub bytes_written : (ℕ → Option ℕ) → Pages → ℕ → List ℕ → MemoryDone
bytes_written see m at bytes = if lacks_seen see m at (length bytes) then record { answer = LacksFrames; memory = m } else record { answer = Gives success; memory = stored see m at bytes }

-- CopyMem(to, from, size): the bytes are those from before the call, also where the ranges overlap. Nothing is copied
-- where one of them may not be read or written.
unfoldable pub copy_mem : List ℕ → (ℕ → Option ℕ) → Pages → MemoryDone
copy_mem x see m =
    if all_pass (view_allows see (rights_at m) Load) (argument 1 x) (argument 2 x) && all_pass (view_allows see (rights_at m) Store) (argument 0 x) (argument 2 x)
    then bytes_written see m (argument 0 x) (bytes_from (seen_bytes see (bytes_of m)) (argument 1 x) (argument 2 x))
    else record { answer = Gives success; memory = m }

-- SetMem(to, size, byte): the low byte of the register. Nothing is set where a byte may not be written.
unfoldable pub set_mem : List ℕ → (ℕ → Option ℕ) → Pages → MemoryDone
set_mem x see m =
    if all_pass (view_allows see (rights_at m) Store) (argument 0 x) (argument 1 x)
    then bytes_written see m (argument 0 x) (replicate (argument 1 x) (argument 2 x % 256))
    else record { answer = Gives success; memory = m }

-- CalculateCrc32(buffer, size, *crc4)
unfoldable pub calculate_crc32 : List ℕ → (ℕ → Option ℕ) → Pages → MemoryDone
calculate_crc32 x see m =
    if can_write see m (argument 2 x) 4 && (not (argument 1 x == 0) && can_read_buffer see m (argument 0 x) (argument 1 x))
    then number_written see m m (argument 2 x) 4 (crc_of (bytes_from (seen_bytes see (bytes_of m)) (argument 0 x) (argument 1 x)))
    else record { answer = Gives invalid_parameter; memory = m }
