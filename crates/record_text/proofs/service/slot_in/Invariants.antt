use Rattle.std.proofs.Common.{◌≡◌, map, drop}
use Rattle.record_text.specs.Services.{slot_from}
use Rattle.record_text.proofs.service.slot_in.Given as goal

abbrev pub invariant-loop-slot : goal.invariant-loop-slot
invariant-loop-slot l = slot_from l.slot (map (λ name. name.now) (drop l.slot l.names)) l.name ≡ slot_from 0 (map (λ name. name.now) l.names) l.name
