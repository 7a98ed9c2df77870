use Rattle.std.proofs.Common.{sym, ◌∙◌, rules, arith, Some, None}
use Rattle.toml.specs.View.{view}
use Rattle.prov_cert.specs.declared.fault.Part.TheVariants as parts
use Rattle.prov_cert.specs.Reading.{node_at}
use Rattle.prov_cert.specs.Seen.{counts_seen}
use Rattle.prov_cert.proofs.Loops.{goes_on, fails, ended, node_is}
use Rattle.prov_cert.proofs.lists.nodes_of.Goals as goal

pub returns-in-Ok-None : goal.returns-in-Ok-None
returns-in-Ok-None c =
    rw (c.fault_at.ensures, c.len.ensures, c.loop-value.nodes.ok.0) (fails parts.Nodes (node_at (counts_seen c.args.counts)) c.loop-value.nodes.items c.args.values.now c.loop-value.value-index c.value-item.result _ c.loop-value-test.true c.value-item.is c.loop-value.invariant.same (node_is (counts_seen c.args.counts) c.loop-value.nodes.items (view c.value-item.result) None (rw c.in-Ok-None.field-0-is at c.in-Ok-None.ensures)))

pub loop-value-preserved : goal.loop-value-preserved
loop-value-preserved c = record {
  same = rw c.in-Ok.ensures.items (goes_on parts.Nodes (node_at (counts_seen c.args.counts)) c.loop-value.nodes.items c.args.values.now c.loop-value.value-index c.value-item.result _ c.loop-value-test.true c.value-item.is c.loop-value.invariant.same c.in-Ok-Some.node (node_is (counts_seen c.args.counts) c.loop-value.nodes.items (view c.value-item.result) (Some c.in-Ok-Some.node) (rw c.in-Ok-Some.field-0-is at c.in-Ok-Some.ensures)));
  short = rw c.in-Ok.ensures.items (search (rules, c.loop-value.invariant.short));
}

pub returns : goal.returns
returns c = sym c.loop-value.invariant.same ∙ ended parts.Nodes (node_at (counts_seen c.args.counts)) c.loop-value.nodes.items c.args.values.now c.loop-value.value-index (omega arith)
