use Rattle.page_alloc.proofs.FitLemmas.{fit_no_start, fit_here}
use Rattle.page_alloc.proofs.map.PageMap.fit_at.Goals as goal

pub returns-in_default : goal.returns-in_default
returns-in_default c = fit_no_start c.args.self.now c.args.at c.args.pages c.requires.some c.in_default.ensures.none

pub returns : goal.returns
returns c = fit_here c.args.self.now c.args.at c.args.pages c.in-Some.start c.highest.result c.requires.some c.in-Some.ensures.some c.highest.ensures
