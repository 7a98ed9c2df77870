use Rattle.std.proofs.Common.{◌∙◌, sym}
use Rattle.event_queue.proofs.Moments.{tick_later}
use Rattle.event_queue.proofs.events.Events.tick.Goals as goal

pub make_tick-requires : goal.make_tick-requires
make_tick-requires c = tick_later c.args.self.now c.args.present (sym c.has_tick.ensures ∙ c.if-not-has_tick.false)
