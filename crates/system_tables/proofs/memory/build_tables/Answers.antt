use Rattle.system_tables.proofs.MemoryLemmas.{ready, ready_still}
use Rattle.system_tables.proofs.memory.build_tables.Goals as goal

pub put_page-requires-clause-inside : goal.put_page-requires-clause-inside
put_page-requires-clause-inside c = (ready c.args.layout.now c.args.memory.now _ c.whole.ensures c.requires c.in_ok-make_room.ensures.gives.1).boot

pub put_page-requires-clause-touched : goal.put_page-requires-clause-touched
put_page-requires-clause-touched c = (ready c.args.layout.now c.args.memory.now _ c.whole.ensures c.requires c.in_ok-make_room.ensures.gives.1).boot_touched

pub put_page-requires-2-clause-inside : goal.put_page-requires-2-clause-inside
put_page-requires-2-clause-inside c =
    (ready_still c.args.layout.now _ _ _ _ (ready c.args.layout.now c.args.memory.now _ c.whole.ensures c.requires c.in_ok-make_room.ensures.gives.1) c.put_page.ensures.after).system

pub put_page-requires-2-clause-touched : goal.put_page-requires-2-clause-touched
put_page-requires-2-clause-touched c =
    (ready_still c.args.layout.now _ _ _ _ (ready c.args.layout.now c.args.memory.now _ c.whole.ensures c.requires c.in_ok-make_room.ensures.gives.1) c.put_page.ensures.after).system_touched

pub returns-clause-touched : goal.returns-clause-touched
returns-clause-touched c =
    let r = ready_still c.args.layout.now _ _ _ _ (ready c.args.layout.now c.args.memory.now _ c.whole.ensures c.requires c.in_ok-make_room.ensures.gives.1) c.put_page.ensures.after in
    (ready_still c.args.layout.now _ _ _ _ r c.put_page-2.ensures.after).system_touched
