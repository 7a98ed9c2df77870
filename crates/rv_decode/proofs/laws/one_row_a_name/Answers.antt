use Rattle.rv_decode.proofs.RowLawLemmas.{row_of_name, one_row_of_name}
use Rattle.rv_decode.proofs.laws.one_row_a_name.Goals as goal

pub returns : goal.returns
returns c = record { row = row_of_name; only = one_row_of_name }
