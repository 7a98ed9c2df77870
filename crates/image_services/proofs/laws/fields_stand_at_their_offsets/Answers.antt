use Rattle.image_services.proofs.LawLemmas.{fields_stand}
use Rattle.image_services.proofs.laws.fields_stand_at_their_offsets.Goals as goal

pub returns : goal.returns
returns c = fields_stand
