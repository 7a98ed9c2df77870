use Rattle.std.proofs.Common.{◌≡◌, ◌-◌, []}
use Rattle.variable_store.specs.Reading.{entries}
use Rattle.variable_store.proofs.loading.entries.Given as goal

abbrev pub invariant-loop-turn : goal.invariant-loop-turn
invariant-loop-turn l = entries (l.count - l.turn) l.size l.left l.variables ≡ entries l.count l.size l.fn.rest []
