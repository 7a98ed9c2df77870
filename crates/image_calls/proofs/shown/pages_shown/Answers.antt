use Rattle.std.proofs.Common.{ℕ, ◌+◌, List, sym, subst}
use Rattle.address_view.specs.Windows.{see}
use Rattle.uh_base.specs.Bytes.{next}
use Rattle.image_calls.proofs.ShownLemmas.{Going, starts, here_seen, goes_on, ends}
use Rattle.image_calls.proofs.shown.pages_shown.Goals as goal

pub loop-init : goal.loop-init
loop-init c = subst (λ (pages : List ℕ). Going (see c.args.view.now) c.args.memory.now c.args.at c.args.count c.args.at 0 pages) (sym c.new-pages.ensures.items) (starts _ _ _ _ c.requires)

pub page_shown-requires : goal.page_shown-requires
page_shown-requires c = here_seen (see c.args.view.now) c.args.memory.now c.args.at c.args.count c.loop.here c.loop.counter c.loop.pages.items c.loop-test.true c.loop.invariant

pub loop-preserved : goal.loop-preserved
loop-preserved c =
    subst (λ (pages : List ℕ). Going (see c.args.view.now) c.args.memory.now c.args.at c.args.count (next c.loop.here) (c.loop.counter + 1) pages) (sym c.in_ok-push.ensures.items)
    (goes_on (see c.args.view.now) c.args.memory.now c.args.at c.args.count c.loop.here c.loop.counter c.page_shown.result c.loop.pages.items c.loop-test.true c.loop.invariant c.page_shown.ensures.page c.page_shown.ensures.inside)

pub returns-clause-pages : goal.returns-clause-pages
returns-clause-pages c = ends (see c.args.view.now) c.args.memory.now c.args.at c.args.count c.loop.here c.loop.counter c.loop.pages.items c.loop-test.false c.loop.invariant

pub returns-clause-inside : goal.returns-clause-inside
returns-clause-inside c = c.loop.invariant.inside
