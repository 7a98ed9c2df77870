use Rattle.std.proofs.Common.{◌≡◌, ◌≤◌, drop}
use Rattle.std.specs.Prelude.{slice_index}
use Rattle.prov_layout.specs.Laid.{pieces_from, put_all}
use Rattle.prov_layout.proofs.laying.lay_spans.Given as goal

abbrev pub invariant-loop-s : goal.invariant-loop-s
invariant-loop-s l = (put_all l.pieces.items (pieces_from (slice_index l.targets) l.i l.cell (drop l.s-index l.spans)) ≡ put_all l.initial.pieces.items (pieces_from (slice_index l.targets) 0 0 l.spans)) × (l.i ≡ l.s-index) × (l.cell ≤ l.s-index)
