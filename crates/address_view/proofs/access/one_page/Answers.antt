use Rattle.std.proofs.Common.{arith, sym}
use Rattle.address_view.proofs.PageRun.{one_page_is}
use Rattle.address_view.proofs.access.one_page.Goals as goal

pub returns-then-allows : goal.returns-then-allows
returns-then-allows c = one_page_is c.args.view.now c.args.memory.now c.args.kind c.in-Some.window c.in-Some-rights_at.rights c.args.at c.args.width c.whole-2.ensures c.whole.ensures
    (sym c.in-Some.ensures.found) c.in-Some.ensures.fits.0 c.in-Some.ensures.fits.1 (omega arith) (omega arith) c.requires.some (sym c.in-Some-rights_at.ensures) (sym c.if-allows.ensures)
