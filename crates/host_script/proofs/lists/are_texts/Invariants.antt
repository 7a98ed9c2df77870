use Rattle.std.proofs.Common.{◌≡◌, drop}
use Rattle.toml.specs.View.{items_view}
use Rattle.host_script.specs.Lists.{are_texts}
use Rattle.host_script.proofs.lists.are_texts.Given as goal

abbrev pub invariant-loop-value : goal.invariant-loop-value
invariant-loop-value l = are_texts (items_view (drop l.value-index l.values)) ≡ are_texts (items_view l.values)
