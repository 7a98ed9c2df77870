use Rattle.prov_types.proofs.AskLemmas.{narrow_sound}
use Rattle.prov_types.proofs.laws.narrow_is_sound.Goals as goal

pub returns : goal.returns
returns c = narrow_sound
