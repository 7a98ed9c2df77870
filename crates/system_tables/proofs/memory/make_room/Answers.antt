use Rattle.std.proofs.Common.{rules}
use Rattle.system_tables.proofs.MemoryLemmas.{places, room}
use Rattle.system_tables.proofs.memory.make_room.Goals as goal

pub overflow_sub-first : goal.overflow_sub-first
overflow_sub-first c = (places c.args.layout.now c.args.memory.now c.requires).above

pub overflow_cast-first : goal.overflow_cast-first
overflow_cast-first c = let h = (places c.args.layout.now c.args.memory.now c.requires).small in search (rules, h)

pub returns-clause-gives : goal.returns-clause-gives
returns-clause-gives c = room c.reserve.result c.args.layout.now c.args.memory.now _ c.requires c.reserve.ensures.gives
