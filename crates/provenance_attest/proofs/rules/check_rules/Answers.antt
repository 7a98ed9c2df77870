use Rattle.provenance_attest.proofs.Judging.{at_nodes, before_nodes}
use Rattle.provenance_attest.proofs.rules.check_rules.Goals as goal

pub returns-in-Some : goal.returns-in-Some
returns-in-Some c = before_nodes c.args.state.now c.args.handle c.args.cert.now _ c.in-Some.first c.in_ok-first.field-0 c.in_ok-reached.ensures c.in_ok-first.ensures c.in-Some.is

pub returns : goal.returns
returns c = at_nodes c.args.state.now c.args.handle c.args.cert.now _ c.in_ok-first.field-0 c.check_nodes.result c.in_ok-reached.ensures c.in_ok-first.ensures c.in-None.is c.check_nodes.ensures
