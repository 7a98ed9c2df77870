use Rattle.std.proofs.Common.{◌≡◌, drop}
use Rattle.std.specs.Prelude.{◌&&◌}
use Rattle.variable_store.specs.Entries.{index_of, is_seen, is_named}
use Rattle.variable_store.proofs.PlaceLemmas.{shifted}
use Rattle.variable_store.proofs.places.place_of.Given as goal

abbrev pub invariant-loop-index : goal.invariant-loop-index
invariant-loop-index l =
    shifted l.index (index_of (λ entry. is_seen l.runtime entry && is_named l.name l.vendor entry) (drop l.index l.variables)) ≡ index_of (λ entry. is_seen l.runtime entry && is_named l.name l.vendor entry) l.variables
