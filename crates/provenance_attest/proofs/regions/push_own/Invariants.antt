use Rattle.std.proofs.Common.{◌≡◌, drop}
use Rattle.guest_memory.specs.Pages.{bytes_of}
use Rattle.address_view.specs.Windows.{see, seen_bytes}
use Rattle.provenance_tables.specs.Regions.{with_own}
use Rattle.provenance_attest.proofs.regions.push_own.Given as goal

abbrev pub invariant-loop-o : goal.invariant-loop-o
invariant-loop-o l = with_own (seen_bytes (see l.view) (bytes_of l.memory)) l.starts.items (drop l.o-index l.own) ≡ with_own (seen_bytes (see l.view) (bytes_of l.memory)) l.initial.starts.items l.own
