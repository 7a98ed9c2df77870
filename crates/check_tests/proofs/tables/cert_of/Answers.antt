use Rattle.check_tests.proofs.tables.cert_of.Goals as goal

pub returns-in-Ok : goal.returns-in-Ok
returns-in-Ok c = c.certs_keep_forms.ensures _ _ c.in-Ok.ensures
