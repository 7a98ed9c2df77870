use Rattle.std.proofs.Common.{ap, get_or}
use Rattle.std.proofs.lemmas.List.Edits.{map_over_more}
use Rattle.protocol_db.specs.Registrations.{Registration, silenced}
use Rattle.protocol_db.proofs.registration.silence_all.Goals as goal

pub loop-registration-preserved : goal.loop-registration-preserved
loop-registration-preserved c =
    rw c.silence.ensures (map_over_more (silenced c.args.guid.now c.args.handle) c.deref_mut-registration-items.result.now c.loop-registration.registration-items c.loop-registration.registration-index (get_or c.loop-registration.registration-items c.loop-registration.registration-index c.registration-item.result)
    c.loop-registration-test.true c.loop-registration.invariant (ap (λ (d : Registration). get_or c.loop-registration.registration-items c.loop-registration.registration-index d) c.registration-item.is))
