use Rattle.std.proofs.Common.{◌≡◌, ℕ, map, refl, ap, ◌∙◌}
use Rattle.std.specs.List.{slice_get}
use Rattle.rv_decode.specs.Texts.{or_empty, register_names, register_name}
use Rattle.prov_cert.specs.declared.forms.TheConstants.{NAMES}
use Rattle.prov_cert.proofs.writing.register_name.Goals as goal

names-are : map (λ name. name.now) NAMES ≡ register_names
unfolding register_names
names-are = refl

name-is : (reg : ℕ) → or_empty (slice_get (map (λ name. name.now) NAMES) reg) ≡ register_name reg
unfolding register_name
name-is reg = ap (λ names. or_empty (slice_get names reg)) names-are

pub returns : goal.returns
returns c = c.name_in.ensures ∙ name-is c.args.reg
