use Rattle.std.proofs.Common.{◌≡◌, drop, []}
use Rattle.toml.specs.View.{items_view}
use Rattle.host_script.specs.Script.{images_of}
use Rattle.host_script.proofs.images.images_of.Given as goal

abbrev pub invariant-loop-value : goal.invariant-loop-value
invariant-loop-value l = images_of l.images.items (items_view (drop l.value-index l.values)) ≡ images_of [] (items_view l.values)
