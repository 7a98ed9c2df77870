use Rattle.std.proofs.Common.{sym, ◌∙◌, arith}
use Rattle.guest_build.specs.Views.{places_in}
use Rattle.guest_build.proofs.LineLemmas.{extent_step, extent_end, found_step, found_end}
use Rattle.guest_build.proofs.assembly.surveyed.Goals as goal

pub loop-i-preserved : goal.loop-i-preserved
loop-i-preserved c = record {
  extent = sym (extent_step c.args.lines.now c.loop-i.i _ c.loop-i.survey.extent c.add.new.self.extent c.loop-i-test.true c.in_ok-add.ensures.extent) ∙ c.loop-i.invariant.extent;
  labels = λ name. found_step c.args.lines.now c.loop-i.i _ c.loop-i.survey.extent c.add.new.self.extent c.loop-i-test.true c.in_ok-add.ensures.extent (places_in c.loop-i.survey.labels name) (places_in c.add.new.self.labels name) name (c.in_ok-add.ensures.labels name) ∙ c.loop-i.invariant.labels name;
}

pub returns-clause-extent : goal.returns-clause-extent
returns-clause-extent c = sym (extent_end c.args.lines.now c.loop-i.i c.loop-i.survey.extent (omega arith)) ∙ c.loop-i.invariant.extent

pub returns-clause-labels : goal.returns-clause-labels
returns-clause-labels c = λ name. sym (found_end c.args.lines.now c.loop-i.i _ c.loop-i.survey.extent (places_in c.loop-i.survey.labels name) name (omega arith)) ∙ c.loop-i.invariant.labels name
