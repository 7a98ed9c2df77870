use Rattle.std.proofs.Common.{arith}
use Rattle.page_alloc.proofs.FitLemmas.{fit_any, fit_below, fit_too_many}
use Rattle.page_alloc.proofs.map.PageMap.fit_of.Goals as goal

pub returns-then-pages-total : goal.returns-then-pages-total
returns-then-pages-total c = fit_too_many c.args.self.now c.args.kind c.args.at c.args.pages (let t = c.total.ensures in omega arith)

pub returns-in-0 : goal.returns-in-0
returns-in-0 c = fit_any c.args.self.now c.args.kind c.args.at c.args.pages _ c.highest.result c.requires.some c.in-0.is c.total-in-0.ensures c.highest.ensures

pub returns-in-1 : goal.returns-in-1
returns-in-1 c = fit_below c.args.self.now c.args.kind c.args.at c.args.pages _ c.highest-in-1.result c.requires.some c.in-1.is c.pages_up_to.ensures c.highest-in-1.ensures
