use Rattle.std.proofs.Common.{sym, ◌∙◌, rules, arith, Some, None}
use Rattle.toml.specs.View.{view}
use Rattle.prov_cert.specs.declared.fault.Part.TheVariants as parts
use Rattle.prov_cert.specs.Reading.{span_at}
use Rattle.prov_cert.proofs.Loops.{goes_on, fails, ended, span_is}
use Rattle.prov_cert.proofs.lists.spans_of.Goals as goal

pub returns-in-None : goal.returns-in-None
returns-in-None c = record {
  few = tt;
  read =
      rw (c.fault_at.ensures, c.len.ensures, c.loop-value.spans.ok.0) (fails parts.Spans (span_at c.args.regions) c.loop-value.spans.items c.args.values.now c.loop-value.value-index c.value-item.result _ c.loop-value-test.true c.value-item.is c.loop-value.invariant.same (span_is c.args.regions c.loop-value.spans.items (view c.value-item.result) None c.in-None.ensures));
}

pub loop-value-preserved : goal.loop-value-preserved
loop-value-preserved c = record {
  same = rw c.in-Ok.ensures.items (goes_on parts.Spans (span_at c.args.regions) c.loop-value.spans.items c.args.values.now c.loop-value.value-index c.value-item.result _ c.loop-value-test.true c.value-item.is c.loop-value.invariant.same c.in-Some.span (span_is c.args.regions c.loop-value.spans.items (view c.value-item.result) (Some c.in-Some.span) c.in-Some.ensures));
  short = rw c.in-Ok.ensures.items (search (rules, c.loop-value.invariant.short));
}

pub returns-clause-read : goal.returns-clause-read
returns-clause-read c = sym c.loop-value.invariant.same ∙ ended parts.Spans (span_at c.args.regions) c.loop-value.spans.items c.args.values.now c.loop-value.value-index (omega arith)
