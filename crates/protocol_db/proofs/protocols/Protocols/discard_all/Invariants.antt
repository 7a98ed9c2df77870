use Rattle.std.proofs.Common.{◌≡◌, take}
use Rattle.protocol_db.specs.Calls.{all_discarded}
use Rattle.protocol_db.proofs.protocols.Protocols.discard_all.Given as goal

abbrev pub invariant-loop-pair : goal.invariant-loop-pair
invariant-loop-pair l = l.self ≡ all_discarded l.fn.self l.handle (take l.pair-index l.pairs)
