use Rattle.std.proofs.Common.{◌≡◌, drop}
use Rattle.host_script.specs.Script.{has_image}
use Rattle.host_script.proofs.images.has_image.Given as goal

abbrev pub invariant-loop-image : goal.invariant-loop-image
invariant-loop-image l = has_image (drop l.image-index l.images) l.name ≡ has_image l.images l.name
