use Rattle.std.proofs.Common.{◌≡◌, drop}
use Rattle.provenance_check.specs.Rules.{all_above}
use Rattle.provenance_check.proofs.order.all_above.Given as goal

abbrev pub invariant-loop-n : goal.invariant-loop-n
invariant-loop-n l = all_above l.number (drop l.n-index l.next) ≡ all_above l.number l.next
