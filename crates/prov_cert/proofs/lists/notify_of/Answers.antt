use Rattle.std.proofs.Common.{sym, ◌∙◌, rules, arith, Some, None}
use Rattle.toml.specs.View.{view}
use Rattle.prov_cert.specs.declared.fault.Part.TheVariants as parts
use Rattle.prov_cert.specs.Reading.{notify_at}
use Rattle.prov_cert.proofs.Loops.{goes_on, fails, ended, notify_is}
use Rattle.prov_cert.proofs.lists.notify_of.Goals as goal

pub returns-in-None : goal.returns-in-None
returns-in-None c =
    rw (c.fault_at.ensures, c.len.ensures, c.loop-value.notify.ok.0) (fails parts.Notify (notify_at c.args.nodes) c.loop-value.notify.items c.args.values.now c.loop-value.value-index c.value-item.result _ c.loop-value-test.true c.value-item.is c.loop-value.invariant.same (notify_is c.args.nodes c.loop-value.notify.items (view c.value-item.result) None c.in-None.ensures))

pub loop-value-preserved : goal.loop-value-preserved
loop-value-preserved c = record {
  same = rw c.in-Ok.ensures.items (goes_on parts.Notify (notify_at c.args.nodes) c.loop-value.notify.items c.args.values.now c.loop-value.value-index c.value-item.result _ c.loop-value-test.true c.value-item.is c.loop-value.invariant.same c.in-Some.node (notify_is c.args.nodes c.loop-value.notify.items (view c.value-item.result) (Some c.in-Some.node) c.in-Some.ensures));
  short = rw c.in-Ok.ensures.items (search (rules, c.loop-value.invariant.short));
}

pub returns : goal.returns
returns c = sym c.loop-value.invariant.same ∙ ended parts.Notify (notify_at c.args.nodes) c.loop-value.notify.items c.args.values.now c.loop-value.value-index (omega arith)
