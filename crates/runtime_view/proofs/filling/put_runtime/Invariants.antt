use Rattle.std.proofs.Common.{◌≡◌, ◌+◌, ◌++◌, length, take, drop}
use Rattle.runtime_view.specs.Views.{runtime_windows}
use Rattle.runtime_view.proofs.filling.put_runtime.Given as goal

abbrev pub invariant-loop-descriptor : goal.invariant-loop-descriptor
invariant-loop-descriptor l =
    (take l.count l.room ++ runtime_windows l.entries (drop l.descriptor-index l.descriptors) ≡ runtime_windows l.entries l.descriptors)
    × (l.count + length (runtime_windows l.entries (drop l.descriptor-index l.descriptors)) ≡ length (runtime_windows l.entries l.descriptors))
