use Rattle.protocol_services.proofs.BlockLemmas.{block_seen}
use Rattle.protocol_services.proofs.block.lacks_given.Goals as goal

pub count_after-requires-clause-block : goal.count_after-requires-clause-block
count_after-requires-clause-block c =
    block_seen c.args.ram.now c.args.memory.now c.args.pages.now c.in-Some.at c.args.size c.in_ok-block_in.field-0 c.requires.ram c.whole.ensures c.requires.base c.requires.count c.in-Some.is c.in_ok-block_in.ensures.lies
