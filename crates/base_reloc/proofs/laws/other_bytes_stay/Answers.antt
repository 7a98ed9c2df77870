use Rattle.base_reloc.proofs.EntriesLemmas.{other_bytes_stay}
use Rattle.base_reloc.proofs.laws.other_bytes_stay.Goals as goal

pub returns : goal.returns
returns c = other_bytes_stay
