-- What the services of the console answer, EFI_SIMPLE_TEXT_OUTPUT_PROTOCOL (UEFI 2.10, 12.4).
use Rattle.std.specs.Prelude.{ℕ, ◌==◌, List, Option, Some, None, if◌then◌else◌}
use Rattle.std.specs.List.{list_any}
use Rattle.uh_base.specs.Statuses.{success, warn_unknown_glyph, invalid_parameter, unsupported}
use Rattle.uh_base.specs.ConsoleText.{units_text, is_surrogate}
use Rattle.guest_memory.specs.Pages.{Pages}
use Rattle.address_view.specs.declared.view.Window.{Window}
use Rattle.console_services.specs.Strings.{string_at}

-- the most units of a string that a service is given, with the one of 0 that ends it
abbrev pub most_units : ℕ
most_units = 4096

-- A service answers with a value for a0, and may print a text.
pub data Reply : Type 0 where
  Answers : (a0 : ℕ) → Reply
  Prints : (text : List ℕ) (a0 : ℕ) → Reply

-- a string at an address that isn't 0
abbrev pub string_given : List Window → Pages → ℕ → Option (List ℕ)
string_given view m at = if at == 0 then None else string_at most_units view m at

-- a warning where a unit was skipped
abbrev pub glyph_status : List ℕ → ℕ
glyph_status units = if list_any is_surrogate units then warn_unknown_glyph else success

abbrev pub printed : Option (List ℕ) → Reply
printed None = Answers invalid_parameter
printed (Some units) = Prints (units_text units) (glyph_status units)

-- OutputString(this, string) prints the string (12.4.3). It is refused where the address is 0, a byte of the string isn't
-- seen, or no end is among its first 4,096 units.
unfoldable pub output_string : List Window → Pages → ℕ → Reply
output_string view m at = printed (string_given view m at)

abbrev pub tested : Option (List ℕ) → ℕ
tested None = invalid_parameter
tested (Some units) = if list_any is_surrogate units then unsupported else success

-- TestString(this, string): whether no unit of the string would be skipped (12.4.4). It prints nothing.
unfoldable pub test_string : List Window → Pages → ℕ → ℕ
test_string view m at = tested (string_given view m at)

-- SetMode(this, mode): there is mode 0 alone, of 80 columns and 25 rows (12.4.6)
abbrev pub set_mode : ℕ → ℕ
set_mode mode = if mode == 0 then success else unsupported
