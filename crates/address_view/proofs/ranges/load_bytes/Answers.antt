use Rattle.guest_memory.specs.Runs.{bytes_from}
use Rattle.std.proofs.Common.{◌≡◌, ◌-◌, ◌++◌, arith, sym, ap, ◌∙◌}
use Rattle.guest_memory.specs.Pages.{bytes_of}
use Rattle.address_view.specs.Windows.{see, seen_bytes}
use Rattle.address_view.proofs.RangeLemmas.{bytes_over}
use Rattle.address_view.proofs.RunLaws.{run_bytes}
use Rattle.address_view.proofs.LoopLemmas.{seen_behind, low_behind}
use Rattle.address_view.proofs.SplitLemmas.{bytes_behind}
use Rattle.address_view.proofs.ranges.load_bytes.Goals as goal

pub loop-left-preserved : goal.loop-left-preserved
loop-left-preserved c =
    let f = seen_bytes (see c.args.view.now) (bytes_of c.args.memory.now) in
    let run = c.seen_run-run.result in
    let few = c.seen_run-run.ensures.few in
    let part = run_bytes (see c.args.view.now) c.args.memory.now c.loop-left.here run c.seen_run-run.ensures.found in
    record {
      low = low_behind c.loop-left.here run.len _ c.behind-here.ensures;
      seen = seen_behind (see c.args.view.now) c.args.memory.now c.loop-left.here _ run.len c.loop-left.left c.behind-here.ensures few c.loop-left.invariant.low c.loop-left.invariant.seen;
      rest = ap (λ list. list ++ bytes_from f c.behind-here.result (c.loop-left.left - run.len)) (c.in_ok-extend_from_slice.ensures.items ∙ ap (λ list. c.loop-left.bytes.items ++ list) (c.part.ensures ∙ sym part))
          ∙ bytes_behind f c.loop-left.bytes.items c.loop-left.here _ run.len c.loop-left.left c.behind-here.ensures few c.loop-left.invariant.low
          ∙ c.loop-left.invariant.rest;
    }

pub returns : goal.returns
returns c =
    let over = c.loop-left-test.false in
    let n : c.loop-left.left ≡ 0 = omega arith in
    sym (bytes_over (seen_bytes (see c.args.view.now) (bytes_of c.args.memory.now)) c.loop-left.bytes.items c.loop-left.here c.loop-left.left n) ∙ c.loop-left.invariant.rest
