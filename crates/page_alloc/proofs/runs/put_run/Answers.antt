use Rattle.std.proofs.Common.{◌<◌, ◌∙◌, ap, length, arith}
use Rattle.page_alloc.proofs.PageLemmas.{length-with_pages}
use Rattle.page_alloc.proofs.SplitLemmas.{Filled, filled_by, last_later}
use Rattle.page_alloc.proofs.runs.put_run.Goals as goal

pub cut-requires-clause-low : goal.cut-requires-clause-low
cut-requires-clause-low c =
    let first = c.split-first.ensures in
    let last = c.split-last.ensures in
    let later : c.split-first.result < c.split-last.result
    = last_later c.args.runs.now.items c.split-first.new.runs.items c.split-last.new.runs.items _ _ c.args.index c.args.count c.from.result c.from.ensures c.requires.some first.pages last.pages first.place last.before last.place in
    omega arith

filled_at : (c : goal.After-cut) → Filled c.args.runs.now.items c.cut.new.runs.items c.args.index c.args.count c.args.page
filled_at c =
    let first = c.split-first.ensures in
    let last = c.split-last.ensures in
    let long = c.split-last.new.runs.ok in
    let below = last.below in
    filled_by c.args.runs.now.items c.split-first.new.runs.items c.split-last.new.runs.items _ _ c.args.index c.args.count c.from.result c.from.ensures c.requires.some first.pages last.pages first.place last.before last.place
    c.cut.new.runs.items c.args.page last.none_empty (omega arith) c.cut.ensures.items

pub returns-clause-pages : goal.returns-clause-pages
returns-clause-pages c = (filled_at c).pages

pub returns-clause-length : goal.returns-clause-length
returns-clause-length c = ap length (filled_at c).pages ∙ length-with_pages _ _ _ c.args.page c.requires.inside

pub returns-clause-none_empty : goal.returns-clause-none_empty
returns-clause-none_empty c = (filled_at c).none_empty
