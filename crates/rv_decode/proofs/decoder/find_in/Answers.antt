use Rattle.std.proofs.Common.{◌∙◌, arith}
use Rattle.rv_decode.proofs.SlotLemmas.{part_bounds, part_first}
use Rattle.rv_decode.proofs.decoder.find_in.Goals as goal

pub slice_bounds-find-count : goal.slice_bounds-find-count
slice_bounds-find-count c = let b = part_bounds c.args.slot c.requires.below in omega (arith, b.0)

pub slice_bounds-find-start : goal.slice_bounds-find-start
slice_bounds-find-start c = let b = part_bounds c.args.slot c.requires.below in omega (arith, b.0)

pub slice_bounds-find-end : goal.slice_bounds-find-end
slice_bounds-find-end c = let b = part_bounds c.args.slot c.requires.below in omega (arith, b.1)

pub returns-clause-first : goal.returns-clause-first
returns-clause-first c = c.find.ensures.first ∙ part_first c.args.slot c.args.word c.requires.below c.requires.slot
