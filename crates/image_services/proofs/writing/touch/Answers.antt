use Rattle.image_services.proofs.MarkLemmas.{reserved_besides}
use Rattle.image_services.proofs.writing.touch.Goals as goal

pub returns-in-Ok-clause-besides : goal.returns-in-Ok-clause-besides
returns-in-Ok-clause-besides c = reserved_besides c.args.memory.now _ c.args.first c.args.count c.whole.ensures c.requires.inside c.in-Ok.ensures.gives.2
