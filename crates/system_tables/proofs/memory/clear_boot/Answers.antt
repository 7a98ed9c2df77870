use Rattle.system_tables.proofs.MemoryLemmas.{places}
use Rattle.system_tables.proofs.memory.clear_boot.Goals as goal

pub read_part-requires : goal.read_part-requires
read_part-requires c = (places c.args.layout.now c.args.memory.now c.requires.ram).system

pub put_page-requires-clause-inside : goal.put_page-requires-clause-inside
put_page-requires-clause-inside c = (places c.args.layout.now c.args.memory.now c.requires.ram).system
