use Rattle.std.proofs.Common.{◌≡◌, ◌++◌, take}
use Rattle.std.specs.List.{flat_map}
use Rattle.uh_base.specs.Guid.{bytes_of}
use Rattle.protocol_services.proofs.lists.push_guids.Given as goal

abbrev pub invariant-loop-guid : goal.invariant-loop-guid
invariant-loop-guid l = l.bytes.items ≡ l.initial.bytes.items ++ flat_map bytes_of (take l.guid-index l.guids)
