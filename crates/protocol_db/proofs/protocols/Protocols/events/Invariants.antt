use Rattle.std.proofs.Common.{◌≡◌, take}
use Rattle.std.specs.Prelude.{map}
use Rattle.std.specs.List.{filter}
use Rattle.protocol_db.specs.Registrations.{Registration, is_for}
use Rattle.protocol_db.proofs.protocols.Protocols.events.Given as goal

abbrev pub invariant-loop-registration : goal.invariant-loop-registration
invariant-loop-registration l = l.events.items ≡ map (λ (r : Registration). r.event) (filter (is_for l.guid) (take l.registration-index l.registration-items))
