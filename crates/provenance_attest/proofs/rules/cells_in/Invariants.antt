use Rattle.std.proofs.Common.{◌≡◌, ◌+◌, ◌≤◌, drop}
use Rattle.prov_cert.specs.Reading.{cells_in}
use Rattle.provenance_attest.proofs.rules.cells_in.Given as goal

abbrev pub invariant-loop-s : goal.invariant-loop-s
invariant-loop-s l = (l.cells + cells_in (drop l.s-index l.spans) ≡ cells_in l.spans) × (l.cells ≤ l.s-index)
