use Rattle.std.proofs.Common.{refl}
use Rattle.host_engine.proofs.PlaceLemmas.{place_below}
use Rattle.host_engine.proofs.call_step.called_at.Goals as goal

pub handle_at-requires : goal.handle_at-requires
handle_at-requires c = place_below c.args.images.now c.args.images.now c.as_str.result.now c.place_of-place.result _ (rw c.as_str.ensures (rw c.in-Image.is at c.requires.known)) c.place_of-place.ensures refl c.requires.handles
