use Rattle.rv_decode.proofs.RowLawLemmas.{lui_field}
use Rattle.rv_decode.proofs.laws.lui_field_is_its_immediate.Goals as goal

pub returns : goal.returns
returns c = lui_field
