use Rattle.std.proofs.Common.{◌≡◌, ℕ, List, map, IfOk, string_bytes, rules, refl, subst}
use Rattle.prov_cert.specs.Cert.{Plain}
use Rattle.prov_cert.specs.Texts.{region_text, stretch_text, entry_text, node_text, quoted_list, number_list, line_list, document, cert_lines}
use Rattle.prov_cert.proofs.writing.cert_text.Goals as goal

whole : (cert : Plain) (regions spans entries notify nodes : List ℕ) → regions ≡ quoted_list (map region_text cert.regions) → spans ≡ quoted_list (map stretch_text cert.spans) → entries ≡ quoted_list (map entry_text cert.entries)
    → notify ≡ number_list cert.notify → nodes ≡ line_list (map node_text cert.nodes) → document regions spans entries notify nodes ≡ cert_lines cert
unfolding cert_lines
whole cert regions spans entries notify nodes a b c d e = rw (a, b, c, d, e) refl

pub returns : goal.returns
returns c =
    subst (λ text. IfOk c.document.result (λ s. string_bytes s ≡ text))
    (whole c.args.cert.now c.as_str.result.now c.as_str-2.result.now c.as_str-3.result.now c.as_str-4.result.now c.as_str-5.result.now (search rules) (search rules) (search rules) (search rules) (search rules))
    c.document.ensures
