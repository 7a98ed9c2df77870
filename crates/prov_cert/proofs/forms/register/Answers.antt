use Rattle.std.proofs.Common.{◌≡◌, List, ℕ, map, refl, ap, ◌∙◌}
use Rattle.rv_decode.specs.Texts.{register_names}
use Rattle.prov_cert.specs.Forms.{register_from, register}
use Rattle.prov_cert.specs.declared.forms.TheConstants.{NAMES}
use Rattle.prov_cert.proofs.forms.register.Goals as goal

names-are : map (λ name. name.now) NAMES ≡ register_names
unfolding register_names
names-are = refl

register-is : (text : List ℕ) → register_from 0 (map (λ name. name.now) NAMES) text ≡ register text
unfolding register
register-is text = ap (λ names. register_from 0 names text) names-are

pub returns : goal.returns
returns c = c.register_in.ensures ∙ register-is c.args.text.now
