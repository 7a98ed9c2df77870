use Rattle.std.proofs.Common.{arith}
use Rattle.time_service.proofs.TextLemmas.{other_length, missed, fitted, all_fitted}
use Rattle.time_service.proofs.text.fits_form.Goals as goal

pub returns-then-text-form-clause-fits : goal.returns-then-text-form-clause-fits
returns-then-text-form-clause-fits c = other_length c.args.form.now c.args.text.now c.if-text-form.true

pub returns-then-not-fits_character-clause-fits : goal.returns-then-not-fits_character-clause-fits
returns-then-not-fits_character-clause-fits c =
    missed c.args.form.now c.args.text.now c.loop-index.index c.if-text-form.false c.loop-index.invariant _ c.fits_character.ensures c.if-not-fits_character.true c.loop-index-test.true

pub loop-index-preserved : goal.loop-index-preserved
loop-index-preserved c =
    fitted c.args.form.now c.args.text.now c.loop-index.index c.if-text-form.false c.loop-index.invariant _ c.fits_character.ensures c.if-not-fits_character.false c.loop-index-test.true

pub returns-clause-fits : goal.returns-clause-fits
returns-clause-fits c = all_fitted c.args.form.now c.args.text.now c.loop-index.index c.if-text-form.false c.loop-index.invariant (omega arith)
