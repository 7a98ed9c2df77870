use Rattle.rv_decode.proofs.FieldLemmas.{field_decides, fields_decide}
use Rattle.rv_decode.proofs.laws.fields_decide.Goals as goal

pub returns : goal.returns
returns c = record { one = field_decides; more = fields_decide }
