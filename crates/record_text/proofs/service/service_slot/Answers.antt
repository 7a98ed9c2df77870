use Rattle.std.proofs.Common.{◌≡◌, ℕ, map, List, length, ap, ◌∙◌, sym, false}
use Rattle.std.specs.Prelude.{◌==◌}
use Rattle.record_text.specs.Services.{slot_from, service_slot}
use Rattle.record_text.specs.declared.service.TheConstants.{SERVICES}
use Rattle.record_text.proofs.ServiceTable.{names_are}
use Rattle.record_text.proofs.service.service_slot.Goals as goal

slot_is : (name : List ℕ) → (length name == 0) ≡ false → slot_from 0 (map (λ name. name.now) SERVICES) name ≡ service_slot name
unfolding service_slot
slot_is name some = rw some (ap (λ names. slot_from 0 names name) names_are)

pub returns-else-is_empty : goal.returns-else-is_empty
returns-else-is_empty c = c.slot_in.ensures ∙ slot_is c.args.name.now (sym c.if-is_empty.ensures)
