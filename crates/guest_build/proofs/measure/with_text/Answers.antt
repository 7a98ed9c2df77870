use Rattle.guest_build.proofs.MeasureLemmas.{more_text}
use Rattle.guest_build.proofs.measure.with_text.Goals as goal

pub returns : goal.returns
returns c = more_text c.args.measure c.with_all.result c.with_all-2.result c.args.text.now c.args.cells.now c.args.text_from c.args.data_from c.requires.measure c.requires.cells c.requires.from c.with_all.ensures c.with_all-2.ensures
