use Rattle.std.proofs.Common.{◌<◌, ◌^◌, ap, get_or, subst, sym}
use Rattle.std.proofs.lemmas.List.Edits.{map_over_more}
use Rattle.guest_memory.specs.Pages.{bytes_of}
use Rattle.map_faults.specs.Grounds.{Kept}
use Rattle.map_transition.specs.Images.{HasSites}
use Rattle.map_transition.specs.Fixes.{marked}
use Rattle.map_transition.proofs.SiteLemmas.{still_there}
use Rattle.map_transition.proofs.marking.mark_all.Goals as goal

pub mark_image-requires-clause-sites : goal.mark_image-requires-clause-sites
mark_image-requires-clause-sites c =
    subst (λ (image : Kept). HasSites c.args.memory.now image) (sym (still_there (marked (bytes_of c.args.memory.now)) c.args.kept.now c.loop-image.kept c.loop-image.image-index c.image-item.result c.loop-image-test.true c.loop-image.invariant))
    (c.requires.sites c.loop-image.image-index c.image-item.result c.loop-image-test.true)

pub mark_image-requires-clause-low : goal.mark_image-requires-clause-low
mark_image-requires-clause-low c =
    subst (λ (image : Kept). image.base < 2 ^ 63) (sym (still_there (marked (bytes_of c.args.memory.now)) c.args.kept.now c.loop-image.kept c.loop-image.image-index c.image-item.result c.loop-image-test.true c.loop-image.invariant))
    (c.requires.low c.loop-image.image-index c.image-item.result c.loop-image-test.true)

pub loop-image-preserved : goal.loop-image-preserved
loop-image-preserved c =
    rw c.mark_image.ensures (map_over_more (marked (bytes_of c.args.memory.now)) c.args.kept.now c.loop-image.kept c.loop-image.image-index (get_or c.loop-image.kept c.loop-image.image-index c.image-item.result)
    c.loop-image-test.true c.loop-image.invariant (ap (λ (d : Kept). get_or c.loop-image.kept c.loop-image.image-index d) c.image-item.is))
