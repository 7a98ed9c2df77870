use Rattle.std.proofs.Common.{refl}
use Rattle.memory_map.specs.Bytes.{all_bytes}
use Rattle.memory_map.specs.Map.{map_of}
use Rattle.address_view.specs.Windows.{see}
use Rattle.memory_services.proofs.MapLemmas.{listing_next}
use Rattle.memory_services.proofs.map.write_list.Goals as goal

pub loop-descriptor-preserved : goal.loop-descriptor-preserved
loop-descriptor-preserved c =
    listing_next c.stores_follow.ensures (see c.args.view.now) c.args.memory.now c.loop-descriptor.memory c.write_descriptor.new.memory c.args.at (all_bytes (map_of c.args.pages.now)) c.loop-descriptor.here _ c.loop-descriptor.cursor c.next.new.self c.in-Some.descriptor
    c.in-Some.ensures refl c.loop-descriptor.invariant c.in_ok-write_descriptor.ensures.ok c.in_ok-write_descriptor.ensures.base c.in_ok-write_descriptor.ensures.pages
