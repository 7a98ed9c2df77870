use Rattle.std.proofs.Common.{sym, subst}
use Rattle.guest_memory.specs.Pages.{bytes_of}
use Rattle.map_faults.specs.Grounds.{Kept}
use Rattle.map_transition.specs.Images.{HasSites}
use Rattle.map_transition.specs.Fixes.{fixed}
use Rattle.map_transition.proofs.ByteLemmas.{only_then}
use Rattle.map_transition.proofs.ImageLemmas.{sites_still, images_next, images_done}
use Rattle.map_transition.proofs.fixing.fix_images.Goals as goal

pub fix_image-requires : goal.fix_image-requires
fix_image-requires c =
    subst (λ (image : Kept). HasSites c.loop-image.memory image) (sym c.image-item.is)
    (sites_still c.args.memory.now c.loop-image.memory _ c.loop-image.invariant.rest (c.requires.sites c.loop-image.image-index c.image-item.result c.loop-image-test.true))

pub loop-image-preserved : goal.loop-image-preserved
loop-image-preserved c = record {
  bytes = λ at. images_next c.args.entries.now c.args.kept.now c.loop-image.image-index c.image-item.result c.args.memory.now at (bytes_of c.loop-image.memory at) (bytes_of c.fix_image.new.memory at) _ c.image-item.is c.requires.apart
      (subst (λ (image : Kept). HasSites c.args.memory.now image) (sym c.image-item.is) (c.requires.sites c.loop-image.image-index c.image-item.result c.loop-image-test.true)) c.loop-image-test.true (c.fix_image.ensures.bytes at) (c.loop-image.invariant.bytes at);
  rest = only_then c.args.memory.now c.loop-image.memory c.fix_image.new.memory c.loop-image.invariant.rest c.fix_image.ensures.rest;
}

pub returns-clause-bytes : goal.returns-clause-bytes
unfolding fixed
returns-clause-bytes c = λ at. images_done c.args.entries.now c.args.kept.now c.loop-image.image-index at (bytes_of c.loop-image.memory at) _ c.loop-image-test.false (c.loop-image.invariant.bytes at)
