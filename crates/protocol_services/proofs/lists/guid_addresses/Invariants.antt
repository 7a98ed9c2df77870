use Rattle.std.proofs.Common.{◌≡◌, ◌++◌}
use Rattle.protocol_services.specs.Lists.{guid_addresses}
use Rattle.protocol_services.proofs.lists.guid_addresses.Given as goal

abbrev pub invariant-loop-left : goal.invariant-loop-left
invariant-loop-left l = l.addresses.items ++ guid_addresses l.here l.left ≡ guid_addresses l.first l.count

abbrev pub decreases-loop-left : goal.decreases-loop-left
decreases-loop-left l = l.left
