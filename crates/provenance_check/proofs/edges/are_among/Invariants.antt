use Rattle.std.proofs.Common.{◌≡◌, drop}
use Rattle.provenance_check.specs.Rules.{are_among}
use Rattle.provenance_check.specs.Successors.{and_cell}
use Rattle.provenance_check.proofs.edges.are_among.Given as goal

abbrev pub invariant-loop-cell : goal.invariant-loop-cell
invariant-loop-cell l = are_among (and_cell l.besides l.done) (drop l.cell-index l.cells) ≡ are_among (and_cell l.besides l.done) l.cells
