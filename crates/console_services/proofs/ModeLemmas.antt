-- The outputs of QueryMode, one after the other.
use Rattle.std.proofs.Common.{◌≡◌, ℕ, zero, suc, false, List, [], ◌∷◌, length, refl, ap, arith}
use Rattle.std.specs.Prelude.{Option, ◌/◌}
use Rattle.uh_base.specs.LittleEndian.{low_bytes}
use Rattle.guest_memory.specs.Pages.{Pages}
use Rattle.address_view.specs.declared.frames.ByteRange.{ByteRange}
use Rattle.address_view.specs.Laws.{RangesSuffice}
use Rattle.address_view.specs.Ranges.{lacks_ranges}
use Rattle.address_view.specs.Stored.{lacks_seen}
use Rattle.console_services.specs.Modes.{columns_written, mode_columns}

abbrev size_ranges : ℕ → ℕ → List ByteRange
size_ranges columns rows = record { at = columns; len = 8 } ∷ record { at = rows; len = 8 } ∷ []

as_long : (n v : ℕ) → length (low_bytes n v) ≡ n
unfolding low_bytes
as_long zero v = refl
as_long (suc n) v = ap suc (as_long n (v / 256))

pub columns_fit : RangesSuffice → (see : ℕ → Option ℕ) (m : Pages) (columns rows : ℕ) → lacks_ranges see m (size_ranges columns rows) ≡ false → lacks_seen see m columns 8 ≡ false
columns_fit law see m columns rows e = (law see m _ _ e).first

pub rows_fit : RangesSuffice → (see : ℕ → Option ℕ) (m : Pages) (columns rows : ℕ) → lacks_ranges see m (size_ranges columns rows) ≡ false → lacks_seen see (columns_written see m columns) rows 8 ≡ false
rows_fit law see m columns rows e =
    let behind = (law see m _ _ e).stored (low_bytes 8 mode_columns) (as_long 8 mode_columns) in
    (law see (columns_written see m columns) _ [] behind).first
