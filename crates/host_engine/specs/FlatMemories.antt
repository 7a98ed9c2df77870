-- A flat memory: 4,096 pages from 0x40000000 on, each byte of which may be loaded, stored and fetched.
use Rattle.std.specs.Prelude.{ℕ, ◌+◌, ◌-◌, ◌&&◌, ◌≤◌, nat_le, nat_lt, Bool, List, if◌then◌else◌, slice_index}
use Rattle.rv_step.specs.declared.bus.Access.{Access}

-- the first address
abbrev pub base : ℕ
base = 0x40000000

-- how many bytes there are
abbrev pub size : ℕ
size = 0x1000000

abbrev pub is_inside : ℕ → Bool
is_inside at = nat_le base at && nat_lt at (base + size)

-- The byte at each address of a memory that begins with these bytes. It is 0 behind them, and outside.
unfoldable pub flat_bytes : List ℕ → ℕ → ℕ
flat_bytes bytes = λ at. if is_inside at then slice_index bytes (at - base) else 0

-- Every access to an address inside is allowed, and none outside.
unfoldable pub flat_rights : Access → ℕ → Bool
flat_rights = λ kind at. is_inside at

-- So many addresses from one on are inside, without wrapping.
pub record AreInside (at width : ℕ) : Type 0 where
  pub low : base ≤ at
  pub high : at + width ≤ base + size
