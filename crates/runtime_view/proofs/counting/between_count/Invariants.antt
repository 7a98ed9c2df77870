use Rattle.std.proofs.Common.{◌≡◌, ◌+◌, ◌≤◌, ◌*◌, length, drop}
use Rattle.runtime_view.specs.Views.{ranges_between}
use Rattle.runtime_view.proofs.counting.between_count.Given as goal

abbrev pub invariant-loop-descriptor : goal.invariant-loop-descriptor
invariant-loop-descriptor l =
    (l.count + length (ranges_between l.layout l.from (drop l.descriptor-index l.descriptors)) ≡ length (ranges_between l.layout l.layout.base l.descriptors))
    × (l.count ≤ 2 * l.descriptor-index)
