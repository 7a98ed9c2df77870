use Rattle.std.proofs.Common.{◌≡◌, ◌++◌, drop}
use Rattle.provenance_tables.specs.Regions.{bytes_in}
use Rattle.provenance_attest.specs.Grounds.{targets_of}
use Rattle.provenance_attest.proofs.targets.targets_of.Given as goal

abbrev pub invariant-loop-s : goal.invariant-loop-s
invariant-loop-s l = l.targets.items ++ targets_of l.image (bytes_in l.state) l.starts (drop l.s-index l.spans) ≡ targets_of l.image (bytes_in l.state) l.starts l.spans
