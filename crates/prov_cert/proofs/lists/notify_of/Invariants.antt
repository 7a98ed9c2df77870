use Rattle.std.proofs.Common.{◌≡◌, ◌≤◌, length, drop, []}
use Rattle.toml.specs.View.{items_view}
use Rattle.prov_cert.specs.declared.fault.Part.TheVariants as parts
use Rattle.prov_cert.specs.Reading.{items_of, notify_at}
use Rattle.prov_cert.proofs.lists.notify_of.Given as goal

abbrev pub invariant-loop-value : goal.invariant-loop-value
invariant-loop-value l = record {
  same : items_of parts.Notify (notify_at l.nodes) l.notify.items (items_view (drop l.value-index l.values)) ≡ items_of parts.Notify (notify_at l.nodes) [] (items_view l.values);
  short : length l.notify.items ≤ l.value-index;
}
