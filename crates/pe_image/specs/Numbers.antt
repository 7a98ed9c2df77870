-- Numbers in a file, the least byte first.
use Rattle.std.specs.Prelude.{ℕ, ◌+◌, ◌*◌, ◌^◌, List, slice_index}

unfoldable pub u16_at : List ℕ → ℕ → ℕ
u16_at bytes at = slice_index bytes at + 2 ^ 8 * slice_index bytes (at + 1)

unfoldable pub u32_at : List ℕ → ℕ → ℕ
u32_at bytes at = slice_index bytes at + 2 ^ 8 * slice_index bytes (at + 1) + 2 ^ 16 * slice_index bytes (at + 2) + 2 ^ 24 * slice_index bytes (at + 3)

unfoldable pub u64_at : List ℕ → ℕ → ℕ
u64_at bytes at = u32_at bytes at + 2 ^ 32 * u32_at bytes (at + 4)
