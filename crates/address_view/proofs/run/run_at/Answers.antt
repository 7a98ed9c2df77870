use Rattle.std.proofs.Common.{arith, sym}
use Rattle.address_view.proofs.ViewLemmas.{is_shown}
use Rattle.address_view.proofs.RunLaws.{run_is, found_page}
use Rattle.address_view.proofs.run.run_at.Goals as goal

pub returns-in-Some-page_at-clause-found : goal.returns-in-Some-page_at-clause-found
returns-in-Some-page_at-clause-found c =
    let f = found_page c.args.memory.now _ _ c.in-Some-page_at.ensures in
    let b = is_shown c.in-Some.window c.args.at c.in-Some.ensures.fits.1 in
    run_is c.args.view.now c.args.memory.now c.in-Some.window c.args.at c.shortest-len.result c.in-Some-page_at.page c.whole-2.ensures c.whole.ensures
    (sym c.in-Some.ensures.found) c.in-Some.ensures.fits.0 c.in-Some.ensures.fits.1
    (c.shortest-len.ensures.some c.requires (omega arith) (omega arith)) c.shortest-len.ensures.second c.shortest-len.ensures.third f.0 f.1
