-- The memory of a guest: its bytes, and the rights and the mark of each page.
use Rattle.std.specs.Prelude.{ℕ, ◌≡◌, ◌+◌, ◌-◌, ◌*◌, ◌/◌, ◌%◌, ◌^◌, ◌≤◌, ◌==◌, ◌&&◌, nat_lt, nat_le, Bool, true, false, List, length, Option, Some, None, if◌then◌else◌, slice_index, slice_get}
use Rattle.uh_base.specs.Limits.{frame_limit}
use Rattle.guest_memory.specs.Lists.{count_true}
use Rattle.guest_memory.specs.declared.rights.Rights.{Rights}

-- Pages of 4,096 bytes each, from the address `base` on. A page is touched once something was put there.
pub record Pages : Type 0 where
  pub base : ℕ
  pub pages : ℕ
  pub bytes : List ℕ
  pub rights : List Rights
  pub touched : List Bool

-- what is so of every memory
pub record Whole (m : Pages) : Type 0 where
  pub base_low : 4096 ≤ m.base
  pub base_even : m.base % 4096 ≡ 0
  pub pages_low : 1 ≤ m.pages
  pub pages_high : m.pages ≤ 1048576
  pub end : m.base + 4096 * m.pages ≤ 2 ^ 47
  pub bytes_long : length m.bytes ≡ 4096 * m.pages
  pub rights_long : length m.rights ≡ m.pages
  pub touched_long : length m.touched ≡ m.pages
  pub touched_few : count_true m.touched ≤ frame_limit

abbrev pub all_rights : Rights
all_rights = record { read = true; write = true; exec = true }

-- whether an address is in it
abbrev pub holds : Pages → ℕ → Bool
holds m at = nat_le m.base at && nat_lt at (m.base + 4096 * m.pages)

-- the page of an address in it
abbrev pub page_of : Pages → ℕ → ℕ
page_of m at = (at - m.base) / 4096

-- the byte at each address, 0 outside
unfoldable pub bytes_of : Pages → ℕ → ℕ
bytes_of m = λ at. if holds m at then slice_index m.bytes (at - m.base) else 0

-- the rights at each address, none outside
unfoldable pub rights_at : Pages → ℕ → Option Rights
rights_at m = λ at. if holds m at then slice_get m.rights (page_of m at) else None

abbrev pub or_false : Option Bool → Bool
or_false None = false
or_false (Some mark) = mark

abbrev pub is_touched : Pages → ℕ → Bool
is_touched m page = or_false (slice_get m.touched page)

-- whether the page of each address is touched, false outside
unfoldable pub touched_at : Pages → ℕ → Bool
touched_at m = λ at. if holds m at then is_touched m (page_of m at) else false

-- whether two addresses lie in one page
abbrev pub same_page : ℕ → ℕ → Bool
same_page a b = a / 4096 == b / 4096

-- the marks with that of the page of an address
abbrev pub with_mark : (ℕ → Bool) → ℕ → ℕ → Bool
with_mark marks at = λ a. if same_page at a then true else marks a

-- so many bytes that lie in one page of memory
pub record InPage (m : Pages) (at width : ℕ) : Type 0 where
  pub low : m.base ≤ at
  pub high : at + width ≤ m.base + 4096 * m.pages
  pub one : at % 4096 + width ≤ 4096
