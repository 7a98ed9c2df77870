use Rattle.address_view.specs.Windows.{see}
use Rattle.std.proofs.Common.{sym}
use Rattle.address_view.proofs.RunLaws.{run_marks}
use Rattle.address_view.proofs.LoopLemmas.{marked_already, marked_anew}
use Rattle.address_view.proofs.store.mark.Goals as goal

pub returns-then-marks-page-clause-marks : goal.returns-then-marks-page-clause-marks
returns-then-marks-page-clause-marks c = marked_already (see c.args.view.now) c.args.memory.now c.args.marks.now c.args.at c.args.run _ c.requires.run c.whole.ensures c.requires.long c.if-marks-page.true

pub returns-clause-marks : goal.returns-clause-marks
returns-clause-marks c = sym (run_marks (see c.args.view.now) c.args.memory.now c.args.at c.args.run c.requires.run c.args.marks.now c.whole.ensures)

pub returns-clause-count : goal.returns-clause-count
returns-clause-count c = marked_anew (see c.args.view.now) c.args.memory.now c.args.marks.now c.args.at c.args.run _ c.requires.run c.requires.long c.if-marks-page.false
