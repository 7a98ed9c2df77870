use Rattle.std.proofs.Common.{sym, ◌∙◌, rules, arith, Some, None}
use Rattle.toml.specs.View.{view}
use Rattle.prov_cert.specs.declared.fault.Part.TheVariants as parts
use Rattle.prov_cert.specs.Reading.{region_at}
use Rattle.prov_cert.proofs.Loops.{goes_on, fails, ended, region_is}
use Rattle.prov_cert.proofs.lists.regions_of.Goals as goal

pub returns-in-None : goal.returns-in-None
returns-in-None c = record {
  few = tt;
  read =
      rw (c.fault_at.ensures, c.len-in-None.ensures, c.loop-value.regions.ok.0) (fails parts.Regions region_at c.loop-value.regions.items c.args.values.now c.loop-value.value-index c.value-item.result _ c.loop-value-test.true c.value-item.is c.loop-value.invariant.same (region_is c.loop-value.regions.items c.len.result (view c.value-item.result) None (c.len.ensures ∙ c.loop-value.regions.ok.0) c.in-None.ensures));
}

pub loop-value-preserved : goal.loop-value-preserved
loop-value-preserved c = record {
  same = rw c.in-Ok.ensures.items (goes_on parts.Regions region_at c.loop-value.regions.items c.args.values.now c.loop-value.value-index c.value-item.result _ c.loop-value-test.true c.value-item.is c.loop-value.invariant.same c.in-Some.region (region_is c.loop-value.regions.items c.len.result (view c.value-item.result) (Some c.in-Some.region) (c.len.ensures ∙ c.loop-value.regions.ok.0) c.in-Some.ensures));
  short = rw c.in-Ok.ensures.items (search (rules, c.loop-value.invariant.short));
}

pub returns-clause-read : goal.returns-clause-read
returns-clause-read c = sym c.loop-value.invariant.same ∙ ended parts.Regions region_at c.loop-value.regions.items c.args.values.now c.loop-value.value-index (omega arith)
