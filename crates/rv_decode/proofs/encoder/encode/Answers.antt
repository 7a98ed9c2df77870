use Rattle.rv_decode.proofs.EncodeLemmas.{encodes, is_encoded}
use Rattle.rv_decode.proofs.encoder.encode.Goals as goal

pub returns : goal.returns
returns c = record {
  word = is_encoded c.args.insn c.row_of_name-row.result _ c.row_of_name-row.ensures c.pack.ensures;
  means = encodes c.args.insn c.row_of_name-row.result _ c.row_of_name-row.ensures c.pack.ensures c.requires;
}
