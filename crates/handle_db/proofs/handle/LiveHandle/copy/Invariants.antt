use Rattle.std.proofs.Common.{◌≡◌, take}
use Rattle.handle_db.proofs.handle.LiveHandle.copy.Given as goal

abbrev pub invariant-loop-protocol : goal.invariant-loop-protocol
invariant-loop-protocol l = l.protocols.items ≡ take l.protocol-index l.protocol-items
