use Rattle.std.proofs.Common.{arith, sym, length}
use Rattle.provenance_check.specs.Seen.{seen}
use Rattle.provenance_attest.specs.Rules.{rule_at}
use Rattle.provenance_attest.proofs.Walks.{found_first, none_at_all}
use Rattle.provenance_attest.proofs.nodes.first_in_nodes.Goals as goal

pub returns-in-Some : goal.returns-in-Some
returns-in-Some g c =
    sym (found_first (rule_at (seen c.args.ground.now) (g.R.PageRights.allows c.args.rights.now)) (length c.args.ground.now.nodes.now) c.loop-n.n c.in-Some.rule (omega (arith, c.loop-n-test.true)) c.loop-n.invariant (sym c.in-Some.ensures))

pub returns : goal.returns
returns g c = sym (none_at_all (rule_at (seen c.args.ground.now) (g.R.PageRights.allows c.args.rights.now)) (length c.args.ground.now.nodes.now) (λ k l. c.loop-n.invariant k (omega (arith, l, c.loop-n-test.false))))
