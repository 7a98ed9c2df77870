use Rattle.std.proofs.Common.{◌≡◌, ◌≤◌, length, drop, []}
use Rattle.toml.specs.View.{items_view}
use Rattle.prov_cert.specs.declared.fault.Part.TheVariants as parts
use Rattle.prov_cert.specs.Reading.{items_of, region_at}
use Rattle.prov_cert.proofs.lists.regions_of.Given as goal

abbrev pub invariant-loop-value : goal.invariant-loop-value
invariant-loop-value l = record {
  same : items_of parts.Regions region_at l.regions.items (items_view (drop l.value-index l.values)) ≡ items_of parts.Regions region_at [] (items_view l.values);
  short : length l.regions.items ≤ l.value-index;
}
