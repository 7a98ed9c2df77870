-- Numbers of eight bytes, one behind another.
use Rattle.std.proofs.Common.{◌≡◌, ◌≤◌, ◌+◌, ◌*◌, ℕ, zero, suc, Bool, true, false, List, [], ◌∷◌, ◌++◌, length, length-append, refl, ap, ◌∙◌, arith}
use Rattle.std.specs.Prelude.{Option, Some, None, is_none, ◌/◌, if◌then◌else◌}
use Rattle.uh_base.specs.Bytes.{next, first_refused}
use Rattle.uh_base.specs.LittleEndian.{low_bytes}
use Rattle.guest_memory.specs.Pages.{Pages}
use Rattle.address_view.specs.Laws.{RangesSuffice}
use Rattle.address_view.specs.Ranges.{lacks_ranges}
use Rattle.address_view.specs.Seen.{all_pass}
use Rattle.address_view.specs.Stored.{lacks_seen, store_seen}
use Rattle.std.specs.Int.{w64, to_le_bytes}
use Rattle.protocol_services.specs.Searching.{words, size_and_buffer}

eight : (number : ℕ) → length (to_le_bytes w64 number) ≡ 8
eight number = refl

pub many : (numbers : List ℕ) → length (words numbers) ≡ 8 * length numbers
unfolding words
many [] = refl
many (number ∷ numbers) = let more = many numbers in omega (arith, more, eight number, length-append (to_le_bytes w64 number) (words numbers))

as_long : (n v : ℕ) → length (low_bytes n v) ≡ n
unfolding low_bytes
as_long zero v = refl
as_long (suc n) v = ap suc (as_long n (v / 256))

-- frames that suffice for the size and the buffer suffice for each, one after the other
pub size_fits : RangesSuffice → (see : ℕ → Option ℕ) (m : Pages) (size_at buffer size : ℕ) → lacks_ranges see m (size_and_buffer size_at buffer size) ≡ false → lacks_seen see m size_at 8 ≡ false
size_fits law see m size_at buffer size e = (law see m _ _ e).first

pub buffer_fits : RangesSuffice → (see : ℕ → Option ℕ) (m : Pages) (size_at buffer size value : ℕ) → lacks_ranges see m (size_and_buffer size_at buffer size) ≡ false → lacks_seen see (store_seen see m size_at 8 value) buffer size ≡ false
buffer_fits law see m size_at buffer size value e = (law see (store_seen see m size_at 8 value) _ [] ((law see m _ _ e).stored (low_bytes 8 value) (as_long 8 value))).first

-- a range that passes a test has each shorter one pass
unrefused : (b : Bool) (at : ℕ) (rest : Option ℕ) → is_none (if b then rest else Some at) ≡ true → (b ≡ true) × (is_none rest ≡ true)
unrefused true at rest e = (refl, e)
unrefused false at rest e = grind arith

pub seen_before : (test : ℕ → Bool) (at few many : ℕ) → few ≤ many → all_pass test at many ≡ true → all_pass test at few ≡ true
unfolding first_refused
seen_before test at zero many h e = refl
seen_before test at (suc few) zero h e = absurd (omega arith)
seen_before test at (suc few) (suc many) h e =
    let u = unrefused (test at) at (first_refused test (next at) many) e in
    rw u.0 (seen_before test (next at) few many (omega arith) u.1)
