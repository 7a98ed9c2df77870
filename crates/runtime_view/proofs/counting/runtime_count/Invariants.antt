use Rattle.std.proofs.Common.{◌≡◌, ◌+◌, ◌≤◌, length, drop}
use Rattle.std.specs.List.{filter}
use Rattle.map_faults.specs.Rules.{is_runtime}
use Rattle.runtime_view.proofs.counting.runtime_count.Given as goal

abbrev pub invariant-loop-descriptor : goal.invariant-loop-descriptor
invariant-loop-descriptor l =
    (l.count + length (filter is_runtime (drop l.descriptor-index l.descriptors)) ≡ length (filter is_runtime l.descriptors))
    × (l.count ≤ l.descriptor-index)
