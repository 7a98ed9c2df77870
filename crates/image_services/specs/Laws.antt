-- What the definitions come to.
use Rattle.std.specs.Prelude.{ℕ, ◌≡◌, ◌<◌, ◌≤◌, ◌*◌, true, List, [], length, take, drop, Ok}
use Rattle.std.specs.List.{All, AllPairs}
use Rattle.std.specs.Option.{is_some}
use Rattle.page_alloc.specs.declared.layout.Layout.{Layout}
use Rattle.image_services.specs.Images.{Loaded, find_image, with_started}
use Rattle.image_services.specs.Stores.{Store}
use Rattle.image_services.specs.Loads.{Load, load_counting}
use Rattle.image_services.specs.Unloads.{discarded}
use Rattle.image_services.specs.Blocks.{block_size, word, pointer, code_type, data_type, block_bytes}

-- the bytes of a field stand at an offset
abbrev pub StandsAt : ℕ → List ℕ → List ℕ → Type 0
StandsAt offset field bytes = take (length field) (drop offset bytes) ≡ field

-- the fields of EFI_LOADED_IMAGE_PROTOCOL that have a value (UEFI 2.10, 9.1)
pub record HasFields (bytes : List ℕ) (parent system base size subsystem : ℕ) : Type 0 where
  pub long : length bytes ≡ block_size
  pub Revision : StandsAt 0 (word 0x1000) bytes
  pub ParentHandle : StandsAt 8 (pointer parent) bytes
  pub SystemTable : StandsAt 16 (pointer system) bytes
  pub ImageBase : StandsAt 64 (pointer base) bytes
  pub ImageSize : StandsAt 72 (pointer size) bytes
  pub ImageCodeType : StandsAt 80 (word (code_type subsystem)) bytes
  pub ImageDataType : StandsAt 84 (word (data_type subsystem)) bytes

-- The fields of a block stand at the offsets of the standard.
abbrev pub FieldsStandAtTheirOffsets : Type 0
FieldsStandAtTheirOffsets = (parent system base size subsystem : ℕ) → HasFields (block_bytes parent system base size subsystem) parent system base size subsystem

-- The handles of loaded images rise in order of loading, and all of them are among so many that were made.
pub record AreInOrder (images : List Loaded) (count : ℕ) : Type 0 where
  pub rise : AllPairs (λ (a b : Loaded). a.handle < b.handle) images
  pub made : All (λ (image : Loaded). image.handle ≤ 16 * count) images

abbrev pub IsInOrder : Store → Type 0
IsInOrder s = AreInOrder s.images s.protocols.handles.made

-- That is so at first, and where more handles are made; a load, a start and a discard leave it so, and then what was loaded
-- is found by its handle.
pub record OrderStays : Type 0 where
  pub first : (count : ℕ) → AreInOrder [] count
  pub more : (images : List Loaded) (count later : ℕ) → AreInOrder images count → count ≤ later → AreInOrder images later
  pub load : (layout : Layout) (s : Store) (file : List ℕ) (parent : ℕ) (also : List ℕ) (load : Load) → IsInOrder s → load_counting layout s file parent also ≡ Ok load → IsInOrder load.after
  pub found : (layout : Layout) (s : Store) (file : List ℕ) (parent : ℕ) (also : List ℕ) (load : Load) → IsInOrder s → load_counting layout s file parent also ≡ Ok load → is_some (find_image load.after.images load.answer.handle) ≡ true
  pub start : (images : List Loaded) (count handle : ℕ) → AreInOrder images count → AreInOrder (with_started images handle) count
  pub discard : (s : Store) (handle : ℕ) → IsInOrder s → IsInOrder (discarded s handle)
