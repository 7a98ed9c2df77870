use Rattle.std.proofs.Common.{◌≡◌, drop}
use Rattle.provenance_check.specs.Rules.{parts_fit}
use Rattle.provenance_check.specs.Seen.{parts_with}
use Rattle.provenance_check.proofs.edges.parts_fit.Given as goal

abbrev pub invariant-loop-p : goal.invariant-loop-p
invariant-loop-p l = parts_fit (parts_with l.stored l.parts) (drop l.p-index l.want) ≡ parts_fit (parts_with l.stored l.parts) l.want
