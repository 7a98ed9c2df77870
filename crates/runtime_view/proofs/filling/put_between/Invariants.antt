use Rattle.std.proofs.Common.{◌≡◌, ◌+◌, ◌++◌, length, take, drop}
use Rattle.runtime_view.specs.Views.{ranges_between}
use Rattle.runtime_view.proofs.filling.put_between.Given as goal

abbrev pub invariant-loop-descriptor : goal.invariant-loop-descriptor
invariant-loop-descriptor l =
    (take l.count l.room ++ ranges_between l.layout l.from (drop l.descriptor-index l.descriptors) ≡ take l.first l.initial.room ++ ranges_between l.layout l.layout.base l.descriptors)
    × (l.count + length (ranges_between l.layout l.from (drop l.descriptor-index l.descriptors)) ≡ l.first + length (ranges_between l.layout l.layout.base l.descriptors))
