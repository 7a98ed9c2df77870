use Rattle.std.proofs.Common.{◌≡◌, ◌++◌, take, drop}
use Rattle.std.specs.Prelude.{map}
use Rattle.image_services.specs.Images.{started_at}
use Rattle.image_services.proofs.images.mark_started.Given as goal

abbrev pub invariant-loop-image : goal.invariant-loop-image
invariant-loop-image l = l.images ≡ map (started_at l.handle) (take l.image-index l.initial.images) ++ drop l.image-index l.initial.images
