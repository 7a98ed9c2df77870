use Rattle.std.proofs.Common.{◌∙◌, sym, ap, arith}
use Rattle.event_queue.specs.Timers.{lesser}
use Rattle.event_queue.proofs.Steps.{tick_here, tick_passed, tick_over}
use Rattle.event_queue.proofs.ticks.least_moment.Goals.{then-moment-low, else-moment-low}
use Rattle.event_queue.proofs.ticks.least_moment.Goals as goal

pub loop-moment-preserved : goal.loop-moment-preserved
loop-moment-preserved c =
    let fits = c.type_inv.listed c.loop-moment.moment-index in
    elim c.if-moment-low.branch [
      | then-moment-low w ↦
          rw (w.least-is, w.lesser-least.ensures) (sym (tick_here c.args.listed.now c.loop-moment.moment-index c.args.low 0 c.loop-moment.least c.loop-moment-test.true (omega (arith, fits)) w.if-moment-low.true) ∙ c.loop-moment.invariant)
      | else-moment-low w ↦
          rw w.least-is (sym (tick_passed c.args.listed.now c.loop-moment.moment-index c.args.low 0 c.loop-moment.least c.loop-moment-test.true w.if-moment-low.false) ∙ c.loop-moment.invariant)
    ]

pub returns : goal.returns
returns c =
    c.lesser.ensures ∙ (ap (lesser c.loop-moment.least) c.rounded.ensures ∙ (sym (tick_over c.args.listed.now c.loop-moment.moment-index c.args.low c.loop-moment.least c.loop-moment-test.false) ∙ c.loop-moment.invariant))
