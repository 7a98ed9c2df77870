use Rattle.std.proofs.Common.{◌≡◌, [], length}
use Rattle.image_dump.specs.Reports.{sites_text}
use Rattle.image_dump.proofs.PutLemmas.{Toward}
use Rattle.image_dump.proofs.sites.put_sites.Given as goal

abbrev pub invariant-loop-left : goal.invariant-loop-left
invariant-loop-left g l = record {
  empty : l.text.items ≡ [];
  toward : Toward (sites_text l.fn.sites) (sites_text l.left) (g.O.Sink.written l.fn.out) (g.O.Sink.faults l.fn.out) (g.O.Sink.written l.out) (g.O.Sink.faults l.out);
}

abbrev pub decreases-loop-left : goal.decreases-loop-left
decreases-loop-left g l = length l.left
