use Rattle.provenance_attest.proofs.TouchedLemmas.{touched_bytes}
use Rattle.provenance_attest.proofs.laws.touched_have_bytes.Goals as goal

pub returns : goal.returns
returns c = touched_bytes
