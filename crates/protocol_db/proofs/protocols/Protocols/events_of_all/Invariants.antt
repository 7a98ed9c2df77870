use Rattle.std.proofs.Common.{◌≡◌, ℕ, take}
use Rattle.std.specs.List.{flat_map}
use Rattle.uh_base.specs.declared.guid.Guid.{Guid}
use Rattle.protocol_db.specs.Registrations.{events_for}
use Rattle.protocol_db.proofs.protocols.Protocols.events_of_all.Given as goal

abbrev pub invariant-loop-pair : goal.invariant-loop-pair
invariant-loop-pair l = l.events.items ≡ flat_map (λ (pair : Guid × ℕ). events_for l.self.registrations pair.0) (take l.pair-index l.pairs)
