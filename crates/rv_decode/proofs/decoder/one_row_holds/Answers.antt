use Rattle.rv_decode.proofs.RowLemmas.{one_row_holds}
use Rattle.rv_decode.proofs.decoder.one_row_holds.Goals as goal

pub returns : goal.returns
returns c = one_row_holds
