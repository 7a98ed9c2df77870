-- What is so of every memory after its calls.
use Rattle.std.specs.Prelude.{ℕ, ◌≡◌, ◌≤◌, ◌*◌, ◌%◌, true, List, length}
use Rattle.uh_base.specs.Bytes.{with_byte}
use Rattle.guest_memory.specs.Pages.{Pages, Whole, InPage, holds, page_of, bytes_of, touched_at, with_mark}
use Rattle.guest_memory.specs.Changes.{put_to, put_part, put_bytes, touch, TouchedBesides, OnlyMarks}

-- a byte that is put at an address of memory is there, and every other address has the byte that it had
abbrev pub BytesArePut : Type 0
BytesArePut = (m : Pages) (at byte : ℕ) → length m.bytes ≡ 4096 * m.pages → holds m at ≡ true → bytes_of (put_to m at byte) ≡ with_byte (bytes_of m) at byte

-- where a page in memory is touched, its addresses are touched then, and every other address is as it was
abbrev pub MarksArePut : Type 0
MarksArePut = (m : Pages) (at : ℕ) → m.base % 4096 ≡ 0 → length m.touched ≡ m.pages → holds m at ≡ true → touched_at (touch m (page_of m at)) ≡ with_mark (touched_at m) at

-- bytes that are put in one page are there as if they were put one after another
abbrev pub PartsArePut : Type 0
PartsArePut = (m : Pages) (at : ℕ) (bytes : List ℕ) → Whole m → InPage m at (length bytes) → 1 ≤ length bytes → put_part m at bytes ≡ put_bytes m at bytes

-- where a call lacked memory and only marks were added, each address has the byte and the rights that it had, and is
-- touched if it was
abbrev pub OnlyMarksAreAdded : Type 0
OnlyMarksAreAdded = (old new : Pages) → TouchedBesides old new → OnlyMarks old new
