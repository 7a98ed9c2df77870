use Rattle.guest_build.proofs.MeasureLemmas.{more_data}
use Rattle.guest_build.proofs.measure.with_data.Goals as goal

pub returns : goal.returns
returns c = more_data c.args.measure c.with_all.result c.args.text.now c.args.cells.now c.args.data_from c.requires.measure c.requires.text c.requires.from c.with_all.ensures
