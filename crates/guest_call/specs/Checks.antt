-- What is asked of a guest's pointers and buffers, where `see` is the place that each address shows.
use Rattle.std.specs.Prelude.{ℕ, ◌==◌, ◌&&◌, ◌||◌, not, Bool, Option}
use Rattle.uh_base.specs.Bytes.{number_at}
use Rattle.guest_memory.specs.Pages.{Pages, bytes_of, rights_at}
use Rattle.address_view.specs.Windows.{seen_bytes}
use Rattle.address_view.specs.Seen.{all_pass, is_seen, view_allows}
use Rattle.rv_step.specs.declared.bus.Access.TheVariants.{Store}

-- a pointer to so many bytes that are written: it isn't 0, and each byte is seen at a page that may be written
unfoldable pub can_write : (ℕ → Option ℕ) → Pages → ℕ → ℕ → Bool
can_write see m at len = not (at == 0) && all_pass (view_allows see (rights_at m) Store) at len

-- a pointer to so many bytes that are only read: it isn't 0, and each byte is seen, whatever its rights
unfoldable pub can_read : (ℕ → Option ℕ) → Pages → ℕ → ℕ → Bool
can_read see m at len = not (at == 0) && all_pass (is_seen see m) at len

-- A buffer is given with its size. One of size 0 is never refused, whatever its address.
unfoldable pub can_write_buffer : (ℕ → Option ℕ) → Pages → ℕ → ℕ → Bool
can_write_buffer see m at len = len == 0 || can_write see m at len

unfoldable pub can_read_buffer : (ℕ → Option ℕ) → Pages → ℕ → ℕ → Bool
can_read_buffer see m at len = len == 0 || can_read see m at len

-- the number of so many bytes that is seen at an address
abbrev pub number_seen : (ℕ → Option ℕ) → Pages → ℕ → ℕ → ℕ
number_seen see m at width = number_at (seen_bytes see (bytes_of m)) at width
