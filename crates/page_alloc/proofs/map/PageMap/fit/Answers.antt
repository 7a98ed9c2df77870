use Rattle.page_alloc.proofs.FitLemmas.{fit_ends}
use Rattle.page_alloc.proofs.map.PageMap.fit.Goals as goal

pub returns-clause-inside : goal.returns-clause-inside
returns-clause-inside c = fit_ends c.args.self.now c.args.kind c.args.at c.args.pages c.fit_of.result c.requires.some c.fit_of.ensures
