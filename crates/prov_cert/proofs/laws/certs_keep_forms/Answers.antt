use Rattle.prov_cert.proofs.KeptLemmas.{keeps_forms}
use Rattle.prov_cert.proofs.laws.certs_keep_forms.Goals as goal

pub returns : goal.returns
returns c = keeps_forms
