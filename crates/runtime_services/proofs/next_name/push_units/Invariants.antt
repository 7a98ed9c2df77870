use Rattle.std.proofs.Common.{◌≡◌, ◌++◌, take}
use Rattle.variable_store.specs.Store.{unit_bytes}
use Rattle.runtime_services.proofs.next_name.push_units.Given as goal

abbrev pub invariant-loop-unit : goal.invariant-loop-unit
invariant-loop-unit l = l.out.items ≡ l.fn.out.items ++ unit_bytes (take l.unit-index l.units)
