use Rattle.std.proofs.Common.{◌≡◌, ◌≤◌, length, drop, []}
use Rattle.toml.specs.View.{items_view}
use Rattle.host_script.specs.Script.{steps_of}
use Rattle.host_script.proofs.steps.steps_of.Given as goal

abbrev pub invariant-loop-value : goal.invariant-loop-value
invariant-loop-value l = record {
  same : steps_of l.images l.steps.items (items_view (drop l.value-index l.values)) ≡ steps_of l.images [] (items_view l.values);
  short : length l.steps.items ≤ l.value-index;
}
