use Rattle.image_services.proofs.LoadLemmas.{moved_whole}
use Rattle.image_services.proofs.reading.move_sites.Goals as goal

pub returns-in-Ok-clause-moves : goal.returns-in-Ok-clause-moves
returns-in-Ok-clause-moves c = moved_whole _ _ _ _ c.in-Ok.ensures.answer c.apply.auto.bytes c.in-Ok.ensures.ok
