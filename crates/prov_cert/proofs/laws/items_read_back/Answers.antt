use Rattle.prov_cert.proofs.BackLemmas.{kind_back}
use Rattle.prov_cert.proofs.ItemLemmas.{region_back, stretch_back, entry_back, node_back}
use Rattle.prov_cert.proofs.laws.items_read_back.Goals as goal

pub returns : goal.returns
returns c = record {
  kinds = kind_back c.decimals_read_back.ensures;
  regions = region_back c.decimals_read_back.ensures;
  spans = stretch_back c.decimals_read_back.ensures;
  entries = entry_back c.decimals_read_back.ensures;
  nodes = node_back c.decimals_read_back.ensures;
}
