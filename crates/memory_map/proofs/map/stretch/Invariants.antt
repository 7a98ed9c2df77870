use Rattle.memory_map.proofs.StretchLemmas.{Stretch}
use Rattle.memory_map.proofs.map.stretch.Given as goal

abbrev pub invariant-loop-count : goal.invariant-loop-count
invariant-loop-count l = Stretch l.runs l.memory_type l.pages l.count
