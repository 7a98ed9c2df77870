use Rattle.address_view.specs.Windows.{see}
use Rattle.address_view.proofs.BaseLemmas.{base_of_stored, pages_of_stored}
use Rattle.address_view.proofs.TouchLaws.{marks_written}
use Rattle.address_view.proofs.ranges.put_touched.Goals as goal

pub returns-clause-marks : goal.returns-clause-marks
returns-clause-marks c = marks_written (see c.args.view.now) c.args.memory.now _ c.args.at c.args.bytes.now c.requires.touched c.put_all.ensures

pub returns-clause-base : goal.returns-clause-base
returns-clause-base c = base_of_stored _ c.args.memory.now (see c.args.view.now) c.args.at c.args.bytes.now c.put_all.ensures

pub returns-clause-pages : goal.returns-clause-pages
returns-clause-pages c = pages_of_stored _ c.args.memory.now (see c.args.view.now) c.args.at c.args.bytes.now c.put_all.ensures
