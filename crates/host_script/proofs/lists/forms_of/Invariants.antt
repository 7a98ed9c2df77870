use Rattle.std.proofs.Common.{◌≡◌, drop, []}
use Rattle.toml.specs.View.{items_view}
use Rattle.host_script.specs.Lists.{forms_of}
use Rattle.host_script.proofs.lists.forms_of.Given as goal

abbrev pub invariant-loop-value : goal.invariant-loop-value
invariant-loop-value g l = forms_of g.T.Form.form l.read.items (items_view (drop l.value-index l.values)) ≡ forms_of g.T.Form.form [] (items_view l.values)
