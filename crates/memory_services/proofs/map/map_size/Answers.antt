use Rattle.std.proofs.Common.{arith}
use Rattle.memory_services.proofs.MapLemmas.{counted, map_fits}
use Rattle.memory_services.proofs.map.map_size.Goals as goal

pub overflow_add-size : goal.overflow_add-size
overflow_add-size c =
    let more = counted c.loop-descriptor.size _ c.in-Some.descriptor c.loop-descriptor.cursor c.next.new.self c.in-Some.ensures c.loop-descriptor.invariant in
    let fits = map_fits c.args.pages.now c.whole.ensures in
    let most = c.whole.ensures.ram.most in
    omega (arith, more, fits, most)

pub loop-descriptor-preserved : goal.loop-descriptor-preserved
loop-descriptor-preserved c = counted c.loop-descriptor.size _ c.in-Some.descriptor c.loop-descriptor.cursor c.next.new.self c.in-Some.ensures c.loop-descriptor.invariant
