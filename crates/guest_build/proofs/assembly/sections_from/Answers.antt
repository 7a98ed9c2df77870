use Rattle.std.proofs.Common.{sym, ◌∙◌, arith}
use Rattle.guest_build.specs.Views.{places_in, sections_of}
use Rattle.guest_build.proofs.LineLemmas.{sections_goes_on, sections_fails, sections_end}
use Rattle.guest_build.proofs.assembly.sections_from.Goals as goal

pub returns-in-Err : goal.returns-in-Err
returns-in-Err c =
    rw c.fault_on.ensures (sections_fails c.args.origins.now (places_in c.args.labels.now) c.args.lines.now c.loop-i.i _ (sections_of c.loop-i.all) _ c.loop-i-test.true c.loop-i.invariant.same c.in-Err.fault c.in-Err.ensures.made)

pub loop-i-preserved : goal.loop-i-preserved
loop-i-preserved c = record {
  same =
      sections_goes_on c.args.origins.now (places_in c.args.labels.now) c.args.lines.now c.loop-i.i _ (sections_of c.loop-i.all) _ c.loop-i-test.true c.loop-i.invariant.same (sections_of c.add_line.new.all) c.in-Ok.ensures.made;
  measure = c.in-Ok.ensures.measure;
}

pub returns : goal.returns
returns c = sym c.loop-i.invariant.same ∙ sections_end c.args.origins.now (places_in c.args.labels.now) c.args.lines.now c.loop-i.i _ (sections_of c.loop-i.all) (omega arith)
