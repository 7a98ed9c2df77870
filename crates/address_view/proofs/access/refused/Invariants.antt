use Rattle.address_view.specs.Windows.{see}
use Rattle.std.proofs.Common.{◌≡◌, ◌<◌, ◌^◌}
use Rattle.uh_base.specs.Bytes.{first_refused}
use Rattle.guest_memory.specs.Pages.{rights_at}
use Rattle.address_view.specs.Seen.{view_allows}
use Rattle.address_view.proofs.access.refused.Given as goal

abbrev pub invariant-loop-left : goal.invariant-loop-left
invariant-loop-left l = record {
  low : l.here < 2 ^ 64;
  rest : first_refused (view_allows (see l.view) (rights_at l.memory) l.kind) l.here l.left ≡ first_refused (view_allows (see l.view) (rights_at l.memory) l.kind) l.at l.len;
}

abbrev pub decreases-loop-left : goal.decreases-loop-left
decreases-loop-left l = l.left
