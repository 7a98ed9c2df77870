use Rattle.base_reloc.proofs.EntriesLemmas.{sites_are_entries}
use Rattle.base_reloc.proofs.laws.sites_are_entries.Goals as goal

pub returns : goal.returns
returns c = sites_are_entries
