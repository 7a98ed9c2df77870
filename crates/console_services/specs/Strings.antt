-- Strings of 16-bit units in memory, which end with a unit of 0. (UEFI 2.10, 2.3.1: CHAR16)
use Rattle.std.specs.Prelude.{ℕ, zero, suc, ◌≡◌, ◌==◌, ◌&&◌, List, [], ◌∷◌, length, Bool, true, Option, Some, None, if◌then◌else◌}
use Rattle.std.specs.Option.{option_map}
use Rattle.uh_base.specs.Bytes.{next, number_at}
use Rattle.guest_memory.specs.Pages.{Pages, bytes_of}
use Rattle.guest_memory.specs.Runs.{bytes_from}
use Rattle.address_view.specs.declared.view.Window.{Window}
use Rattle.address_view.specs.Windows.{see, seen_bytes}
use Rattle.address_view.specs.Seen.{all_pass, is_seen}

-- bytes that are seen one after another, from an address on
abbrev pub SeenFrom : List Window → Pages → ℕ → List ℕ → Type 0
SeenFrom view m at bytes = (bytes ≡ bytes_from (seen_bytes (see view) (bytes_of m)) at (length bytes)) × (all_pass (is_seen (see view) m) at (length bytes) ≡ true)

-- both bytes of a unit are seen
abbrev pub unit_is_seen : List Window → Pages → ℕ → Bool
unit_is_seen view m at = is_seen (see view) m at && is_seen (see view) m (next at)

-- the unit at an address
abbrev pub unit_at : List Window → Pages → ℕ → ℕ
unit_at view m at = number_at (seen_bytes (see view) (bytes_of m)) at 2

-- The units before the first unit of 0, which is one of so many from an address on; none where it isn't, or where a
-- byte up to its end isn't seen.
unfoldable pub string_at : ℕ → List Window → Pages → ℕ → Option (List ℕ)
string_at zero view m at = None
string_at (suc left) view m at =
    if unit_is_seen view m at then (if unit_at view m at == 0 then Some [] else option_map (λ units. unit_at view m at ∷ units) (string_at left view m (next (next at)))) else None
