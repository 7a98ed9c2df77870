use Rattle.std.proofs.Common.{arith, ap, length}
use Rattle.event_queue.proofs.Wholes.{rewound_whole, written_back}
use Rattle.event_queue.proofs.events.Events.rewind.Goals as goal

pub invariant_of-self : goal.invariant_of-self
invariant_of-self c =
    let value = c.as_mut_slice.ensures.value in
    let is = c.rewind_all.ensures in
    let long = c.rewind_all.auto.events in
    let same = ap length value in
    let back = written_back c.self.inside.events.len c.rewind_all.new.events c.self.inside.events.items (omega (arith)) (omega (arith, long, same)) in (
      rw (back, is, value, c.pass.ensures) (rewound_whole _ c.args.present c.self.invariant.0),
      c.self.invariant.1,
      c.self.invariant.2,
      c.self.invariant.3,
      (cc),
    )
