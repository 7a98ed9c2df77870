use Rattle.map_transition.proofs.ImageLemmas.{fixed_memory}
use Rattle.map_transition.proofs.fixing.fix_all.Goals as goal

pub returns : goal.returns
returns c = fixed_memory c.args.entries.now c.args.kept.now c.args.memory.now c.fix_images.new.memory c.whole.ensures c.fix_images.ensures.rest c.fix_images.ensures.bytes
