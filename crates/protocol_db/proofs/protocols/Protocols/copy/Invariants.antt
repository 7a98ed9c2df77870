use Rattle.std.proofs.Common.{◌≡◌, take}
use Rattle.protocol_db.proofs.protocols.Protocols.copy.Given as goal

abbrev pub invariant-loop-registration : goal.invariant-loop-registration
invariant-loop-registration l = l.registrations.items ≡ take l.registration-index l.registration-items
