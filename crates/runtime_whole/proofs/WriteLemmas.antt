-- Services that write alone.
use Rattle.std.proofs.Common.{ℕ, Bool, true, false, List, length}
use Rattle.std.specs.Prelude.{nat_lt, Option, if◌then◌else◌}
use Rattle.uh_base.specs.Statuses.{invalid_parameter}
use Rattle.uh_base.specs.LittleEndian.{low_bytes}
use Rattle.guest_memory.specs.Pages.{Pages}
use Rattle.page_alloc.specs.Pages.{PageList}
use Rattle.address_view.specs.Stored.{store_seen}
use Rattle.memory_map.specs.Map.{map_of}
use Rattle.memory_map.specs.Bytes.{all_bytes}
use Rattle.guest_call.specs.Arguments.{argument}
use Rattle.guest_call.specs.Checks.{can_write_buffer, number_seen}
use Rattle.guest_call.specs.declared.answer.Answer.TheVariants.{Gives}
use Rattle.virtual_map.specs.States.{Runtime}
use Rattle.memory_services.specs.Ram.{MemoryDone, number_written}
use Rattle.memory_services.specs.Copies.{bytes_written, copy_mem, set_mem, calculate_crc32}
use Rattle.memory_services.specs.MapService.{outputs_of, are_outputs, sizes_written, map_written, size_told, map_told, map_given, get_memory_map}
use Rattle.memory_services.specs.declared.map.MapOutputs.{MapOutputs}
use Rattle.image_services.specs.Images.{Loaded}
use Rattle.runtime_whole.specs.Boots.{BootWhole}
use Rattle.runtime_whole.specs.Services.{MemoryWritesKeep}
use Rattle.runtime_whole.proofs.MarkLemmas.{Grows, grows_on, itself, stored_grows}
use Rattle.runtime_whole.proofs.ServiceLemmas.{kept, grown}

pub written : (r : Runtime) (images : List Loaded) (made : ℕ) (m : Pages) → BootWhole r images made → Grows r.memory m → BootWhole (record r { memory = m }) images made
written r images made m b g = kept r images made m r.pages b (grown r.memory m r.pages g)

if_grows : (b : Bool) (m : Pages) (a c : MemoryDone) → Grows m a.memory → Grows m c.memory → Grows m (if b then a else c).memory
if_grows true m a c h k = h
if_grows false m a c h k = k

number_grows : (see : ℕ → Option ℕ) (m : Pages) (at width value : ℕ) → Grows m (number_written see m m at width value).memory
number_grows see m at width value = if_grows _ m _ _ (itself m) (stored_grows see m at (low_bytes width value))

bytes_grow : (see : ℕ → Option ℕ) (m : Pages) (at : ℕ) (bytes : List ℕ) → Grows m (bytes_written see m at bytes).memory
bytes_grow see m at bytes = if_grows _ m _ _ (itself m) (stored_grows see m at bytes)

copies : (x : List ℕ) (see : ℕ → Option ℕ) (m : Pages) → Grows m (copy_mem x see m).memory
unfolding copy_mem
copies x see m = if_grows _ m _ _ (bytes_grow see m _ _) (itself m)

sets : (x : List ℕ) (see : ℕ → Option ℕ) (m : Pages) → Grows m (set_mem x see m).memory
unfolding set_mem
sets x see m = if_grows _ m _ _ (bytes_grow see m _ _) (itself m)

sums : (x : List ℕ) (see : ℕ → Option ℕ) (m : Pages) → Grows m (calculate_crc32 x see m).memory
unfolding calculate_crc32
sums x see m = if_grows _ m _ _ (number_grows see m _ _ _) (itself m)

-- ---- the memory map

number_stored : (see : ℕ → Option ℕ) (m n : Pages) (at width value : ℕ) → Grows m n → Grows m (store_seen see n at width value)
number_stored see m n at width value h = grows_on m n (store_seen see n at width value) h (stored_grows see n at (low_bytes width value))

sizes_grow : (see : ℕ → Option ℕ) (m : Pages) (o : MapOutputs) (size : ℕ) → Grows m (sizes_written see m o size)
sizes_grow see m o size = number_stored see m _ _ _ _ (number_stored see m _ _ _ _ (number_stored see m m _ _ _ (itself m)))

map_grows : (see : ℕ → Option ℕ) (m : Pages) (o : MapOutputs) (bytes : List ℕ) (key : ℕ) → Grows m (map_written see m o bytes key)
map_grows see m o bytes key = number_stored see m _ _ _ _ (grows_on m (sizes_written see m o (length bytes)) _ (sizes_grow see m o (length bytes)) (stored_grows see (sizes_written see m o (length bytes)) o.buffer bytes))

size_told_grows : (see : ℕ → Option ℕ) (m : Pages) (o : MapOutputs) (size : ℕ) → Grows m (size_told see m o size).memory
size_told_grows see m o size = if_grows _ m _ _ (itself m) (sizes_grow see m o size)

map_told_grows : (see : ℕ → Option ℕ) (m : Pages) (o : MapOutputs) (bytes : List ℕ) (key : ℕ) → Grows m (map_told see m o bytes key).memory
map_told_grows see m o bytes key = if_grows _ m _ _ (itself m) (map_grows see m o bytes key)

buffer_grows : (see : ℕ → Option ℕ) (m : Pages) (o : MapOutputs) (bytes : List ℕ) (key room : ℕ) → Grows m (if can_write_buffer see m o.buffer room then map_told see m o bytes key else record { answer = Gives invalid_parameter; memory = m }).memory
buffer_grows see m o bytes key room = if_grows (can_write_buffer see m o.buffer room) m (map_told see m o bytes key) (record { answer = Gives invalid_parameter; memory = m }) (map_told_grows see m o bytes key) (itself m)

map_given_grows : (see : ℕ → Option ℕ) (m : Pages) (o : MapOutputs) (bytes : List ℕ) (key room : ℕ) → Grows m (map_given see m o bytes key room).memory
map_given_grows see m o bytes key room =
    if_grows (nat_lt room (length bytes)) m (size_told see m o (length bytes)) (if can_write_buffer see m o.buffer room then map_told see m o bytes key else record { answer = Gives invalid_parameter; memory = m }) (size_told_grows see m o (length bytes))
    (buffer_grows see m o bytes key room)

maps : (x : List ℕ) (see : ℕ → Option ℕ) (m : Pages) (list : PageList) → Grows m (get_memory_map x see m list).memory
unfolding get_memory_map
maps x see m list =
    if_grows (are_outputs see m (outputs_of x)) m (map_given see m (outputs_of x) (all_bytes (map_of list)) list.key (number_seen see m (argument 0 x) 8)) (record { answer = Gives invalid_parameter; memory = m })
    (map_given_grows see m (outputs_of x) (all_bytes (map_of list)) list.key (number_seen see m (argument 0 x) 8)) (itself m)

pub memory_writes : MemoryWritesKeep
memory_writes r images made x shown b = record {
  copied = written r images made _ b (copies x shown r.memory);
  set = written r images made _ b (sets x shown r.memory);
  summed = written r images made _ b (sums x shown r.memory);
  mapped = written r images made _ b (maps x shown r.memory r.pages);
}
