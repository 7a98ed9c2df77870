use Rattle.prov_cert.proofs.CertLemmas.{cert_back}
use Rattle.prov_cert.proofs.laws.certs_read_back.Goals as goal

pub returns : goal.returns
returns c = cert_back c.decimals_read_back.ensures
