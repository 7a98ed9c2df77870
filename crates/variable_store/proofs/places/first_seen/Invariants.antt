use Rattle.std.proofs.Common.{◌≡◌, drop}
use Rattle.variable_store.specs.Entries.{index_of, is_seen}
use Rattle.variable_store.proofs.PlaceLemmas.{shifted}
use Rattle.variable_store.proofs.places.first_seen.Given as goal

abbrev pub invariant-loop-index : goal.invariant-loop-index
invariant-loop-index l = shifted l.index (index_of (is_seen l.runtime) (drop l.index l.variables)) ≡ index_of (is_seen l.runtime) l.variables
