use Rattle.std.proofs.Common.{◌≡◌, ◌-◌, zero, suc, arith, refl}
use Rattle.address_view.specs.Windows.{see}
use Rattle.protocol_services.proofs.MarkLemmas.{marking_asks, marking_next, marking_over}
use Rattle.protocol_services.proofs.marks.mark.Goals as goal

pub mark_one-requires-clause-seen : goal.mark_one-requires-clause-seen
mark_one-requires-clause-seen c =
    let more = c.loop-left-test.true in
    let k : c.loop-left.left ≡ suc (c.loop-left.left - 1) = omega (arith, more) in
    marking_asks (see c.args.view.now) c.args.memory.now c.args.marks.now c.args.at c.args.len c.loop-left.marks c.loop-left.here c.loop-left.left (c.loop-left.left - 1) k c.loop-left.invariant

pub loop-left-preserved : goal.loop-left-preserved
loop-left-preserved c =
    let more = c.loop-left-test.true in
    let k : c.loop-left.left ≡ suc (c.loop-left.left - 1) = omega (arith, more) in
    marking_next (see c.args.view.now) c.args.memory.now c.args.marks.now c.args.at c.args.len c.loop-left.marks c.mark_one.new.marks c.loop-left.here _ c.loop-left.left (c.loop-left.left - 1) k refl c.loop-left.invariant
    c.mark_one.ensures.marks c.mark_one.ensures.long

pub returns-clause-marks : goal.returns-clause-marks
returns-clause-marks c =
    let over = c.loop-left-test.false in
    let n : c.loop-left.left ≡ zero = omega (arith, over) in
    marking_over (see c.args.view.now) c.args.memory.now c.args.marks.now c.args.at c.args.len c.loop-left.marks c.loop-left.here c.loop-left.left n c.loop-left.invariant
