use Rattle.std.proofs.Common.{◌≡◌, take}
use Rattle.std.specs.Prelude.{map}
use Rattle.std.specs.List.{filter}
use Rattle.protocol_db.specs.Registrations.{lacks, with_last}
use Rattle.protocol_db.proofs.registration.with_pending.Given as goal

abbrev pub invariant-loop-registration : goal.invariant-loop-registration
invariant-loop-registration l = l.changed.items ≡ map (with_last l.handle) (filter (lacks l.pairs l.handle) (take l.registration-index l.registration-items))
