use Rattle.std.proofs.Common.{◌≡◌, ◌++◌, take}
use Rattle.std.specs.List.{flat_map}
use Rattle.variable_store.specs.Store.{kept, entry_bytes}
use Rattle.variable_store.proofs.saving.push_kept.Given as goal

abbrev pub invariant-loop-variable : goal.invariant-loop-variable
invariant-loop-variable l = l.out.items ≡ l.fn.out.items ++ flat_map entry_bytes (kept (take l.variable-index l.entries))
