use Rattle.std.proofs.Common.{◌≡◌, ◌≤◌, ◌+◌, drop}
use Rattle.prov_cert.specs.Reading.{cells_in}
use Rattle.prov_cert.proofs.reading.cells_in.Given as goal

abbrev pub invariant-loop-span : goal.invariant-loop-span
invariant-loop-span l = record {
  count : l.count + cells_in (drop l.span-index l.spans) ≡ cells_in l.spans;
  small : l.count ≤ l.span-index;
}
