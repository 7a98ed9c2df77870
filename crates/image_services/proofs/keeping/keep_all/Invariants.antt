use Rattle.std.proofs.Common.{◌≡◌, ◌++◌, drop}
use Rattle.image_services.specs.Kept.{kept_drivers}
use Rattle.image_services.proofs.keeping.keep_all.Given as goal

abbrev pub invariant-loop-image : goal.invariant-loop-image
invariant-loop-image l = l.kept.items ++ kept_drivers (drop l.image-index l.images) ≡ kept_drivers l.images
