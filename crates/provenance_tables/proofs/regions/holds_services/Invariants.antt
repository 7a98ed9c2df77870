use Rattle.std.proofs.Common.{◌≡◌, ◌<◌, ◌+◌, ◌*◌, ℕ, true}
use Rattle.std.specs.Prelude.{◌==◌}
use Rattle.uh_base.specs.Bytes.{number_at}
use Rattle.guest_memory.specs.Pages.{bytes_of}
use Rattle.address_view.specs.Windows.{see, seen_bytes}
use Rattle.provenance_tables.specs.Regions.{address_of}
use Rattle.provenance_tables.proofs.regions.holds_services.Given as goal

abbrev pub invariant-loop-i : goal.invariant-loop-i
invariant-loop-i l = (k : ℕ) → k < l.i → (number_at (seen_bytes (see l.view) (bytes_of l.memory)) (address_of l.starts 4 (280 + 8 * k)) 8 == address_of l.starts 5 (16 * (44 + k))) ≡ true
