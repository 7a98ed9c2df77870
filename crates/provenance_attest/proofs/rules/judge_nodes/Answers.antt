use Rattle.std.proofs.Common.{ℕ, Some, ◌≡◌, ◌∙◌, List, ap, subst, sym}
use Rattle.std.specs.Prelude.{slice_get}
use Rattle.prov_cert.specs.declared.cert.CertSpan.{CertSpan}
use Rattle.prov_cert.specs.Cert.{Plain}
use Rattle.provenance_tables.specs.Spans.{IsSound}
use Rattle.provenance_attest.proofs.Formed.{spans_sound}
use Rattle.provenance_attest.proofs.rules.judge_nodes.Goals as goal

pub targets_of-requires : goal.targets_of-requires
targets_of-requires c =
    subst (λ (spans : List CertSpan). (i : ℕ) (s : CertSpan) → slice_get spans i ≡ Some s → IsSound s s.class) (sym (c.as_slice-spans.ensures.value ∙ ap (λ (p : Plain). p.spans) c.cert.view_is)) (spans_sound c.args.cert.now c.requires.cert)
