use Rattle.std.proofs.Common.{◌≡◌, ℕ, map, ap, ◌∙◌}
use Rattle.std.specs.List.{slice_get}
use Rattle.record_text.specs.Services.{or_empty, service_name}
use Rattle.record_text.specs.declared.service.TheConstants.{SERVICES}
use Rattle.record_text.proofs.ServiceTable.{names_are}
use Rattle.record_text.proofs.service.service_name.Goals as goal

name_is : (slot : ℕ) → or_empty (slice_get (map (λ name. name.now) SERVICES) slot) ≡ service_name slot
unfolding service_name
name_is slot = ap (λ names. or_empty (slice_get names slot)) names_are

pub returns : goal.returns
returns c = c.name_in.ensures ∙ name_is c.args.slot
