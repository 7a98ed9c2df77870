use Rattle.std.proofs.Common.{◌≡◌, take}
use Rattle.std.specs.Prelude.{map}
use Rattle.handle_db.specs.Database.{Protocol}
use Rattle.handle_db.proofs.handle.LiveHandle.guids.Given as goal

abbrev pub invariant-loop-protocol : goal.invariant-loop-protocol
invariant-loop-protocol l = l.guids.items ≡ map (λ (p : Protocol). p.guid) (take l.protocol-index l.protocol-items)
