use Rattle.protocol_db.proofs.InstallLemmas.{all_installed_in_order}
use Rattle.protocol_db.proofs.laws.all_installed_in_order.Goals as goal

pub returns : goal.returns
returns c = all_installed_in_order
