use Rattle.address_view.specs.Windows.{see}
use Rattle.std.proofs.Common.{◌≡◌, ◌-◌, suc, arith, sym, ◌∙◌}
use Rattle.address_view.specs.Seen.{is_seen}
use Rattle.address_view.proofs.RangeLemmas.{refused_here, refused_over}
use Rattle.address_view.proofs.RunLaws.{run_seen}
use Rattle.address_view.proofs.SplitLemmas.{refused_behind}
use Rattle.address_view.proofs.ranges.unseen.Goals as goal

pub loop-left-preserved : goal.loop-left-preserved
loop-left-preserved c = record {
  low = let e = c.behind-here.ensures in omega arith;
  rest = refused_behind (is_seen (see c.args.view.now) c.args.memory.now) c.loop-left.here _ c.in-Some.found.len c.loop-left.left c.behind-here.ensures c.in-Some.ensures.few c.loop-left.invariant.low
      (run_seen (see c.args.view.now) c.args.memory.now c.loop-left.here c.in-Some.found c.in-Some.ensures.found) ∙ c.loop-left.invariant.rest;
}

pub returns-in-None : goal.returns-in-None
returns-in-None c =
    let some = c.loop-left-test.true in
    let n : c.loop-left.left ≡ suc (c.loop-left.left - 1) = omega arith in
    sym (refused_here (is_seen (see c.args.view.now) c.args.memory.now) c.loop-left.here c.loop-left.left _ n c.in-None.ensures.none) ∙ c.loop-left.invariant.rest

pub returns : goal.returns
returns c =
    let over = c.loop-left-test.false in
    let n : c.loop-left.left ≡ 0 = omega arith in
    sym (refused_over (is_seen (see c.args.view.now) c.args.memory.now) c.loop-left.here c.loop-left.left n) ∙ c.loop-left.invariant.rest
