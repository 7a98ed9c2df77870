use Rattle.address_view.specs.Windows.{see}
use Rattle.std.proofs.Common.{◌≡◌, ◌-◌, suc, arith, sym, ◌∙◌}
use Rattle.guest_memory.specs.Pages.{rights_at}
use Rattle.address_view.specs.Seen.{view_allows}
use Rattle.address_view.proofs.RangeLemmas.{refused_here, refused_over}
use Rattle.address_view.proofs.SplitLemmas.{refused_behind}
use Rattle.address_view.proofs.access.refused.Goals as goal

pub loop-left-preserved : goal.loop-left-preserved
loop-left-preserved c = record {
  low = let e = c.behind-here.ensures in omega arith;
  rest = refused_behind (view_allows (see c.args.view.now) (rights_at c.args.memory.now) c.args.kind) c.loop-left.here _ c.in-Some.count c.loop-left.left c.behind-here.ensures c.in-Some.ensures.few c.loop-left.invariant.low c.in-Some.ensures.pass
      ∙ c.loop-left.invariant.rest;
}

pub returns-in-None : goal.returns-in-None
returns-in-None c =
    let some = c.loop-left-test.true in
    let n : c.loop-left.left ≡ suc (c.loop-left.left - 1) = omega arith in
    sym (refused_here (view_allows (see c.args.view.now) (rights_at c.args.memory.now) c.args.kind) c.loop-left.here c.loop-left.left _ n c.in-None.ensures.none) ∙ c.loop-left.invariant.rest

pub returns : goal.returns
returns c =
    let over = c.loop-left-test.false in
    let n : c.loop-left.left ≡ 0 = omega arith in
    sym (refused_over (view_allows (see c.args.view.now) (rights_at c.args.memory.now) c.args.kind) c.loop-left.here c.loop-left.left n) ∙ c.loop-left.invariant.rest
