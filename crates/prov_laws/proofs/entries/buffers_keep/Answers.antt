use Rattle.prov_laws.proofs.EntryLemmas.{buffers_keep}
use Rattle.prov_laws.proofs.entries.buffers_keep.Goals as goal

pub returns : goal.returns
returns c = let keep = c.stores_keep.ensures in buffers_keep keep.shared keep.code
