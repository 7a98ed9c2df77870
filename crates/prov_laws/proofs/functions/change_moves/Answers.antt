use Rattle.prov_laws.proofs.BehindLemmas.{change_moves}
use Rattle.prov_laws.proofs.functions.change_moves.Goals as goal

pub returns : goal.returns
returns c = change_moves
