-- What the reader of blocks reads at once.
use Rattle.std.specs.Prelude.{◌≡◌, ◌≤◌, ℕ, ◌+◌, ◌-◌, ◌%◌, List, length, ◌&&◌, ◌==◌, nat_lt, Option, Some, None, Result, Ok, Err, if◌then◌else◌}
use Rattle.pe_image.specs.Numbers.{u32_at}
use Rattle.base_reloc.specs.declared.fault.RelocFault.{RelocFault}
use Rattle.base_reloc.specs.declared.fault.RelocFault.TheVariants as faults
use Rattle.base_reloc.specs.declared.reading.Block.{Block}
use Rattle.base_reloc.specs.Blocks.{is_block_size}

-- the header of the block at an offset, none at the end of the list
abbrev pub block_at : List ℕ → ℕ → ℕ → Result (Option Block) RelocFault
block_at table at block =
    let page = u32_at table at in let size = u32_at table (at + 4) in
    if nat_lt (length table) (at + 8) then Err (faults.BlockSize block)
    else (if page == 0 && size == 0 then Ok None
    else (if is_block_size size (length table - at) then Ok (Some (record { page = page; size = size })) else Err (faults.BlockSize block)))

-- a block's size is proper
pub record IsBlock (table : List ℕ) (at : ℕ) (block : Block) : Type 0 where
  pub header : 8 ≤ block.size
  pub even : block.size % 2 ≡ 0
  pub inside : at + block.size ≤ length table
