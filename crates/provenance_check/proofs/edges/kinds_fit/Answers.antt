use Rattle.std.proofs.Common.{arith, sym, ◌∙◌}
use Rattle.prov_types.specs.Fits.{fits}
use Rattle.provenance_check.specs.Rules.{kinds_fit}
use Rattle.provenance_check.specs.Registers.{kind_at}
use Rattle.provenance_check.proofs.Runs.{all_below, one_below}
use Rattle.provenance_check.proofs.edges.kinds_fit.Goals as goal

pub returns-then-not-fits : goal.returns-then-not-fits
unfolding kinds_fit
returns-then-not-fits c = sym (one_below (λ r. fits (kind_at c.args.have.now r) (kind_at c.args.want.now r)) 32 c.loop-r.r c.loop-r-test.true (sym c.fits.ensures ∙ c.if-not-fits.true))

pub returns : goal.returns
unfolding kinds_fit
returns c = sym (all_below (λ r. fits (kind_at c.args.have.now r) (kind_at c.args.want.now r)) 32 (λ i h. c.loop-r.invariant i (omega (arith, h, c.loop-r-test.false))))
