use Rattle.std.proofs.Common.{◌≡◌, [], take, drop}
use Rattle.protocol_db.specs.Calls.{first_refusal}
use Rattle.protocol_db.proofs.protocols.Protocols.first_refusal.Given as goal

abbrev pub invariant-loop-place : goal.invariant-loop-place
invariant-loop-place l = first_refusal l.self.handles l.handle (take l.place l.pairs) (drop l.place l.pairs) ≡ first_refusal l.self.handles l.handle [] l.pairs
