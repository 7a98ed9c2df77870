use Rattle.std.proofs.Common.{◌≡◌, ◌<◌, ℕ, None}
use Rattle.provenance_check.specs.Seen.{seen}
use Rattle.provenance_attest.specs.Rules.{rule_at}
use Rattle.provenance_attest.proofs.nodes.first_in_nodes.Given as goal

abbrev pub invariant-loop-n : goal.invariant-loop-n
invariant-loop-n g l = (k : ℕ) → k < l.n → rule_at (seen l.ground) (g.R.PageRights.allows l.rights) k ≡ None
