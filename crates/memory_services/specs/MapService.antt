-- GetMemoryMap (UEFI 2.10, section 7.2.3), where `see` is the place that each address shows and `x` are the registers of
-- the call.
use Rattle.std.specs.Prelude.{ℕ, ◌&&◌, nat_lt, Bool, List, [], ◌∷◌, length, Option, if◌then◌else◌}
use Rattle.uh_base.specs.Statuses.{success, invalid_parameter, buffer_too_small}
use Rattle.guest_memory.specs.Pages.{Pages}
use Rattle.page_alloc.specs.Pages.{PageList}
use Rattle.memory_map.specs.Map.{map_of}
use Rattle.memory_map.specs.Bytes.{all_bytes, descriptor_size}
use Rattle.address_view.specs.declared.frames.ByteRange.{ByteRange}
use Rattle.address_view.specs.Ranges.{lacks_ranges}
use Rattle.address_view.specs.Stored.{store_seen, stored}
use Rattle.guest_call.specs.declared.answer.Answer.TheVariants.{Gives, LacksFrames}
use Rattle.guest_call.specs.Arguments.{argument}
use Rattle.guest_call.specs.Checks.{can_write, can_write_buffer, number_seen}
use Rattle.guest_call.specs.Outputs.{can_write_optional, optional}
use Rattle.memory_services.specs.declared.map.MapOutputs.{MapOutputs}
use Rattle.memory_services.specs.Ram.{MemoryDone}

-- the addresses that a call brings
abbrev pub outputs_of : List ℕ → MapOutputs
outputs_of x = record { size = argument 0 x; buffer = argument 1 x; key = argument 2 x; descriptor_size = argument 3 x; version = argument 4 x }

-- each output may be written; of the buffer it isn't asked here
unfoldable pub are_outputs : (ℕ → Option ℕ) → Pages → MapOutputs → Bool
are_outputs see m o = can_write see m o.size 8 && (can_write_optional see m o.key 8 && (can_write_optional see m o.descriptor_size 8 && can_write_optional see m o.version 4))

-- the version of the descriptors
abbrev pub descriptor_version : ℕ
descriptor_version = 1

-- The size and the version of a descriptor are written, each unless its address is 0, and then the size of the map.
abbrev pub each_written : (ℕ → Option ℕ) → Pages → MapOutputs → Pages
each_written see m o = store_seen see m o.descriptor_size (optional o.descriptor_size 8) descriptor_size

abbrev pub version_written : (ℕ → Option ℕ) → Pages → MapOutputs → Pages
version_written see m o = store_seen see (each_written see m o) o.version (optional o.version 4) descriptor_version

abbrev pub sizes_written : (ℕ → Option ℕ) → Pages → MapOutputs → ℕ → Pages
sizes_written see m o size = store_seen see (version_written see m o) o.size 8 size

-- Behind these come the descriptors, and the key unless its address is 0.
abbrev pub list_written : (ℕ → Option ℕ) → Pages → MapOutputs → List ℕ → Pages
list_written see m o bytes = stored see (sizes_written see m o (length bytes)) o.buffer bytes

abbrev pub map_written : (ℕ → Option ℕ) → Pages → MapOutputs → List ℕ → ℕ → Pages
map_written see m o bytes key = store_seen see (list_written see m o bytes) o.key (optional o.key 8) key

-- where all of that lies
abbrev pub size_ranges : MapOutputs → List ByteRange → List ByteRange
size_ranges o behind = record { at = o.descriptor_size; len = optional o.descriptor_size 8 } ∷ record { at = o.version; len = optional o.version 4 } ∷ record { at = o.size; len = 8 } ∷ behind

abbrev pub map_ranges : MapOutputs → ℕ → List ByteRange
map_ranges o size = size_ranges o (record { at = o.buffer; len = size } ∷ record { at = o.key; len = optional o.key 8 } ∷ [])

-- The buffer is too small: its size is told, with the size and the version of a descriptor, and not the key.
abbrev pub size_told : (ℕ → Option ℕ) → Pages → MapOutputs → ℕ → MemoryDone
size_told see m o size =
    if lacks_ranges see m (size_ranges o []) then record { answer = LacksFrames; memory = m } else record { answer = Gives buffer_too_small; memory = sizes_written see m o size }

-- The buffer is as long as the map, or longer: the map is told, with its key.
abbrev pub map_told : (ℕ → Option ℕ) → Pages → MapOutputs → List ℕ → ℕ → MemoryDone
map_told see m o bytes key =
    if lacks_ranges see m (map_ranges o (length bytes)) then record { answer = LacksFrames; memory = m } else record { answer = Gives success; memory = map_written see m o bytes key }

-- The buffer is as long as the number at the first output says, and is judged so; `bytes` are those of the map.
abbrev pub map_given : (ℕ → Option ℕ) → Pages → MapOutputs → List ℕ → ℕ → ℕ → MemoryDone
map_given see m o bytes key room =
    if nat_lt room (length bytes) then size_told see m o (length bytes)
    else (if can_write_buffer see m o.buffer room then map_told see m o bytes key
    else record { answer = Gives invalid_parameter; memory = m })

-- GetMemoryMap(*size8, buffer, ?key8, ?each8, ?version4)
unfoldable pub get_memory_map : List ℕ → (ℕ → Option ℕ) → Pages → PageList → MemoryDone
get_memory_map x see m pages =
    if are_outputs see m (outputs_of x) then map_given see m (outputs_of x) (all_bytes (map_of pages)) pages.key (number_seen see m (argument 0 x) 8)
    else record { answer = Gives invalid_parameter; memory = m }
