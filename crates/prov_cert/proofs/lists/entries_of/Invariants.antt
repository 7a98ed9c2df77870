use Rattle.std.proofs.Common.{◌≡◌, ◌≤◌, length, drop, []}
use Rattle.toml.specs.View.{items_view}
use Rattle.prov_cert.specs.declared.fault.Part.TheVariants as parts
use Rattle.prov_cert.specs.Reading.{items_of, entry_at}
use Rattle.prov_cert.specs.Seen.{counts_seen}
use Rattle.prov_cert.proofs.lists.entries_of.Given as goal

abbrev pub invariant-loop-value : goal.invariant-loop-value
invariant-loop-value l = record {
  same : items_of parts.Entries (entry_at (counts_seen l.counts)) l.entries.items (items_view (drop l.value-index l.values)) ≡ items_of parts.Entries (entry_at (counts_seen l.counts)) [] (items_view l.values);
  short : length l.entries.items ≤ l.value-index;
}
