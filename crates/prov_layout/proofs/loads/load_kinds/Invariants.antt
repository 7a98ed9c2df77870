use Rattle.std.proofs.Common.{◌≡◌, ◌+◌, ◌-◌, ◌*◌}
use Rattle.prov_layout.specs.Pieces.{is_shut, shown}
use Rattle.prov_layout.specs.Loads.{load_kinds}
use Rattle.prov_layout.proofs.loads.load_kinds.Given as goal

abbrev pub invariant-loop-k : goal.invariant-loop-k
invariant-loop-k l = l.kind ≡ load_kinds (shown (is_shut l.reader.notified l.reader.done.now) l.pieces l.region) (l.s.lo + (l.n - l.k) * l.s.by) l.s.by l.width l.k
