-- What the definitions of a map come to.
use Rattle.std.specs.Prelude.{ℕ, ◌≡◌, ◌≤◌, ◌<◌, ◌+◌, ◌-◌, ◌%◌, ◌^◌, ◌⊎◌, true, List, slice_get, Some, None, Ok}
use Rattle.memory_map.specs.declared.descriptor.Descriptor.{Descriptor}
use Rattle.map_faults.specs.Grounds.{Ground, Call}
use Rattle.map_faults.specs.Rules.{is_runtime, is_known, behind}
use Rattle.map_faults.specs.Faults.{first_fault, entry_at}
use Rattle.map_faults.specs.Pointers.{converted}

-- An entry for the runtime of an accepted map names a runtime descriptor, and its virtual range is one of whole pages
-- between the first and the last page of the address space.
pub record IsPlaced (g : Ground) (e : Descriptor) : Type 0 where
  pub named : is_known g.descriptors e ≡ true
  pub aligned : e.virt % 4096 ≡ 0
  pub low : 4096 ≤ e.virt
  pub high : behind e.virt e.pages ≤ 2 ^ 64 - 4096

abbrev pub EntriesArePlaced : Type 0
EntriesArePlaced = (g : Ground) (call : Call) (i : ℕ) (e : Descriptor) → first_fault g call ≡ None → slice_get call.entries i ≡ Some e → is_runtime e ≡ true → IsPlaced g e

-- The virtual ranges of two entries for the runtime of an accepted map have no address in common.
abbrev pub RangesAreApart : Type 0
RangesAreApart = (g : Ground) (call : Call) (i j : ℕ) (e f : Descriptor) → first_fault g call ≡ None → i < j → slice_get call.entries i ≡ Some e → slice_get call.entries j ≡ Some f
    → is_runtime e ≡ true → is_runtime f ≡ true → (behind e.virt e.pages ≤ f.virt) ⊎ (behind f.virt f.pages ≤ e.virt)

-- A pointer that isn't 0 is converted by the entry that holds it, and keeps its offset from the entry's start.
pub record KeepsOffset (entries : List Descriptor) (at new : ℕ) : Type 0 where
  pub entry : Descriptor
  pub held : entry_at entries at ≡ Some entry
  pub offset : new ≡ entry.virt + (at - entry.start)
  pub low : entry.start ≤ at
  pub high : at < behind entry.start entry.pages

abbrev pub OffsetsStay : Type 0
OffsetsStay = (entries : List Descriptor) (flags at new : ℕ) → 0 < at → converted entries flags at ≡ Ok new → KeepsOffset entries at new
