use Rattle.std.proofs.Common.{◌≡◌, ◌≤◌, length, take}
use Rattle.variable_store.specs.Store.{kept}
use Rattle.variable_store.proofs.saving.count_kept.Given as goal

abbrev pub invariant-loop-entry : goal.invariant-loop-entry
invariant-loop-entry l = record { counted : l.count ≡ length (kept (take l.entry-index l.entries)); below : l.count ≤ l.entry-index }
