use Rattle.std.proofs.Common.{◌≡◌, take}
use Rattle.std.specs.List.{flat_map}
use Rattle.protocol_services.specs.Lists.{entry_bytes}
use Rattle.protocol_services.proofs.lists.entries_bytes.Given as goal

abbrev pub invariant-loop-entry : goal.invariant-loop-entry
invariant-loop-entry l = l.bytes.items ≡ flat_map entry_bytes (take l.entry-index l.entries)
