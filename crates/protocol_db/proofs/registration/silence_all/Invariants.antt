use Rattle.std.proofs.Common.{◌≡◌, ◌++◌, take, drop}
use Rattle.std.specs.Prelude.{map}
use Rattle.protocol_db.specs.Registrations.{silenced}
use Rattle.protocol_db.proofs.registration.silence_all.Given as goal

abbrev pub invariant-loop-registration : goal.invariant-loop-registration
invariant-loop-registration l = l.registration-items ≡ map (silenced l.guid l.handle) (take l.registration-index l.initial.registration-items) ++ drop l.registration-index l.initial.registration-items
