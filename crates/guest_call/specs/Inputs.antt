-- Inputs of a call that stand in memory, where `see` is the place that each address shows.
use Rattle.std.specs.Prelude.{ℕ, ◌==◌, ◌||◌, Bool, List, Option}
use Rattle.uh_base.specs.declared.guid.Guid.{Guid}
use Rattle.uh_base.specs.Guid.{guid_of}
use Rattle.guest_memory.specs.Pages.{Pages, bytes_of}
use Rattle.guest_memory.specs.Runs.{bytes_from}
use Rattle.address_view.specs.Windows.{seen_bytes}
use Rattle.guest_call.specs.Checks.{can_read}

-- a pointer to so many bytes that are only read, which may be left out: then it is 0
unfoldable pub can_read_optional : (ℕ → Option ℕ) → Pages → ℕ → ℕ → Bool
can_read_optional see m at len = at == 0 || can_read see m at len

-- the sixteen bytes that are seen from an address on, and the GUID that they make (UEFI 2.10, appendix A)
abbrev pub sixteen_seen : (ℕ → Option ℕ) → Pages → ℕ → List ℕ
sixteen_seen see m at = bytes_from (seen_bytes see (bytes_of m)) at 16

abbrev pub guid_seen : (ℕ → Option ℕ) → Pages → ℕ → Guid
guid_seen see m at = guid_of (sixteen_seen see m at)
