use Rattle.std.proofs.Common.{ap, get_or}
use Rattle.std.proofs.lemmas.List.Edits.{map_over_more}
use Rattle.image_services.specs.Images.{Loaded, started_at}
use Rattle.image_services.proofs.images.mark_started.Goals as goal

pub loop-image-preserved : goal.loop-image-preserved
loop-image-preserved c =
    rw c.start_at.ensures (map_over_more (started_at c.args.handle) c.args.images.now c.loop-image.images c.loop-image.image-index (get_or c.loop-image.images c.loop-image.image-index c.image-item.result)
    c.loop-image-test.true c.loop-image.invariant (ap (λ (d : Loaded). get_or c.loop-image.images c.loop-image.image-index d) c.image-item.is))
