use Rattle.std.proofs.Common.{◌≡◌, ◌++◌, take, drop}
use Rattle.std.specs.Prelude.{map}
use Rattle.std.specs.List.{filter}
use Rattle.protocol_db.specs.Registrations.{is_for_any, notified, lacks, with_last}
use Rattle.protocol_db.proofs.registration.put_pending.Given as goal

abbrev pub invariant-loop-registration : goal.invariant-loop-registration
invariant-loop-registration l = record {
  put : l.registration-items ≡ map (notified (is_for_any l.pairs) l.handle) (take l.registration-index l.initial.registration-items) ++ drop l.registration-index l.initial.registration-items;
  left : l.changed.items ≡ map (with_last l.handle) (filter (lacks l.pairs l.handle) (drop l.registration-index l.initial.registration-items));
}
