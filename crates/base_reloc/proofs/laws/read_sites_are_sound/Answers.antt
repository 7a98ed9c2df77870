use Rattle.base_reloc.proofs.SiteLemmas.{sites_in_sound}
use Rattle.base_reloc.proofs.laws.read_sites_are_sound.Goals as goal

pub returns : goal.returns
returns c = λ image placed sites read. sites_in_sound image placed sites read
