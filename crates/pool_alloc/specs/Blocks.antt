-- Blocks on a page of the pool.
use Rattle.std.specs.Prelude.{ℕ, zero, suc, ◌+◌, ◌*◌, ◌/◌, ◌==◌, ◌&&◌, ◌||◌, nat_le, nat_lt, Bool, List, [], ◌∷◌, Option, Some, None, if◌then◌else◌}
use Rattle.std.specs.List.{list_all}
use Rattle.std.specs.Option.{option_or}
use Rattle.pool_alloc.specs.declared.block.Block.{Block}

-- a size rounded up to a multiple of 8, and 0 to 8
abbrev pub rounded : ℕ → ℕ
rounded size = if size == 0 then 8 else (size + 7) / 8 * 8

-- a size that takes whole pages of its own
abbrev pub is_large : ℕ → Bool
is_large size = nat_lt 2048 size

-- how many pages so many bytes need
abbrev pub pages_for : ℕ → ℕ
pages_for size = (size + 4095) / 4096

-- a block has none of so many bytes from an offset on
abbrev pub is_apart : Block → ℕ → ℕ → Bool
is_apart block offset size = nat_le (offset + size) block.offset || nat_le (block.offset + block.size) offset

-- so many bytes from an offset on are on the page, and no block has any of them
abbrev pub has_room : List Block → ℕ → ℕ → Bool
has_room blocks size offset = nat_le (offset + size) 4096 && list_all (λ block. is_apart block offset size) blocks

-- the least number below a bound that passes a test
unfoldable pub least : (ℕ → Bool) → ℕ → Option ℕ
least test zero = None
least test (suc n) = option_or (least test n) (if test n then Some n else None)

-- the lowest gap of a page for so many bytes
unfoldable pub lowest : List Block → ℕ → Option ℕ
lowest blocks size = least (has_room blocks size) 4096

-- a block among others, by offset
abbrev pub with_block : Block → List Block → List Block
with_block block [] = block ∷ []
with_block block (other ∷ blocks) = if nat_lt block.offset other.offset then block ∷ other ∷ blocks else other ∷ with_block block blocks
