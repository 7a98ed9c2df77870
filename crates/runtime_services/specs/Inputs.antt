-- Strings that a call brings, of 16-bit units, which end with a unit of 0 (UEFI 2.10, section 2.3.1, CHAR16), where `see`
-- is the place that each address shows.
use Rattle.std.specs.Prelude.{ℕ, zero, suc, ◌==◌, Bool, true, false, List, [], ◌∷◌, Option, Some, None, option_map, if◌then◌else◌}
use Rattle.uh_base.specs.Bytes.{behind, number_at}
use Rattle.guest_memory.specs.Pages.{Pages, bytes_of, rights_at}
use Rattle.rv_step.specs.declared.bus.Access.TheVariants.{Store}
use Rattle.address_view.specs.Windows.{seen_bytes}
use Rattle.address_view.specs.Seen.{all_pass, is_seen, view_allows}

-- the most units of a string, with the one of 0 that ends it
abbrev pub most_units : ℕ
most_units = 4096

-- The units before the first unit of 0, which is one of so many from an address on; none where it isn't, or where a
-- byte up to its end doesn't pass a test.
unfoldable pub string_from : (ℕ → Bool) → (ℕ → ℕ) → ℕ → ℕ → Option (List ℕ)
string_from passes bytes zero at = None
string_from passes bytes (suc left) at =
    if all_pass passes at 2 then (if number_at bytes at 2 == 0 then Some [] else option_map (λ units. number_at bytes at 2 ∷ units) (string_from passes bytes left (behind at 2))) else None

-- what is asked of each byte of a string: that it is seen, or that it may be written besides
abbrev pub string_test : Bool → (ℕ → Option ℕ) → Pages → ℕ → Bool
string_test true see m = view_allows see (rights_at m) Store
string_test false see m = is_seen see m

-- the string at an address that isn't 0
abbrev pub string_at : Bool → (ℕ → Option ℕ) → Pages → ℕ → Option (List ℕ)
string_at written see m at = if at == 0 then None else string_from (string_test written see m) (seen_bytes see (bytes_of m)) most_units at
