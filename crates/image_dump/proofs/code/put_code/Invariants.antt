use Rattle.std.proofs.Common.{◌≡◌, ◌≤◌, ◌+◌, [], length}
use Rattle.image_dump.specs.Code.{listing}
use Rattle.image_dump.proofs.PutLemmas.{Toward}
use Rattle.image_dump.proofs.code.put_code.Given as goal

abbrev pub invariant-loop-left : goal.invariant-loop-left
invariant-loop-left g l = record {
  empty : l.text.items ≡ [];
  inside : l.place + length l.left ≤ 0x800000;
  toward : Toward (listing l.fn.at l.fn.code) (listing l.place l.left) (g.O.Sink.written l.fn.out) (g.O.Sink.faults l.fn.out) (g.O.Sink.written l.out) (g.O.Sink.faults l.out);
}

abbrev pub decreases-loop-left : goal.decreases-loop-left
decreases-loop-left g l = length l.left
