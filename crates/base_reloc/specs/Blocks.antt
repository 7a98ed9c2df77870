-- The blocks of base relocations (PE/COFF, "The .reloc Section (Image Only)", "Base Relocation Block").
use Rattle.std.specs.Prelude.{ℕ, ◌+◌, ◌-◌, ◌/◌, ◌%◌, zero, suc, List, [], ◌∷◌, ◌++◌, length, Bool, ◌&&◌, ◌==◌, nat_le, nat_lt, slice_range, if◌then◌else◌}
use Rattle.pe_image.specs.ImageOf.{Fields}
use Rattle.pe_image.specs.Numbers.{u16_at, u32_at}

-- an entry of a block for a page, or a block that has no proper size
pub data Part : Type 0 where
  Entry : (page word : ℕ) → Part
  Broken : (block : ℕ) → Part

-- so many entries from an offset on
unfoldable pub entries_at : List ℕ → ℕ → ℕ → ℕ → List Part
entries_at table page at zero = []
entries_at table page at (suc n) = Entry page (u16_at table at) ∷ entries_at table page (at + 2) n

-- the size of a block, with its 8 bytes of header, where so many bytes are left
abbrev pub is_block_size : ℕ → ℕ → Bool
is_block_size size left = nat_le 8 size && (size % 2 == 0 && nat_le size left)

abbrev pub entry_count : ℕ → ℕ
entry_count size = (size - 8) / 2

-- the block at an offset, and what follows it; a block of page 0 and size 0 ends the list
abbrev pub with_block : List ℕ → ℕ → ℕ → (ℕ → ℕ → List Part) → List Part
with_block table at block rest =
    let page = u32_at table at in let size = u32_at table (at + 4) in
    if nat_lt (length table) (at + 8) then Broken block ∷ []
    else (if page == 0 && size == 0 then []
    else (if is_block_size size (length table - at) then entries_at table page (at + 8) (entry_count size) ++ rest (at + size) (block + 1) else Broken block ∷ []))

-- the entries of at most so many blocks from an offset on, the first of which has a number
unfoldable pub parts_at : ℕ → List ℕ → ℕ → ℕ → List Part
parts_at zero table at block = []
parts_at (suc blocks) table at block = if nat_le (length table) at then [] else with_block table at block (parts_at blocks table)

-- the entries from an offset on; there are fewer blocks than bytes
abbrev pub parts_from : List ℕ → ℕ → ℕ → List Part
parts_from table at block = parts_at (length table - at) table at block

abbrev pub parts_of : List ℕ → List Part
parts_of table = parts_from table 0 0

-- the base relocations of a placed image
abbrev pub table_of : Fields → List ℕ → List ℕ
table_of image placed = slice_range placed image.reloc_at (image.reloc_at + image.reloc_len)
