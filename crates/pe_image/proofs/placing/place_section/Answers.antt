use Rattle.std.proofs.Common.{arith}
use Rattle.pe_image.proofs.PlaceLemmas.{get_or-copied}
use Rattle.pe_image.proofs.placing.place_section.Goals as goal

pub returns : goal.returns
returns c = λ at h. get_or-copied c.args.section.now.at c.args.section.now.copied c.args.section.now.raw c.args.to.now c.args.file.now c.copy_from_slice.new.self at (omega arith) (grind arith) c.copy_from_slice.ensures.after
