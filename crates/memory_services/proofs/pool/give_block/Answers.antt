use Rattle.memory_services.proofs.BlockLemmas.{small_block, span_lies, given_bytes}
use Rattle.memory_services.proofs.pool.give_block.Goals as goal

pub block_size-requires : goal.block_size-requires
block_size-requires c = small_block c.pages_allocated-span.result c.args.pool.now c.args.pages.now c.args.memory_type c.args.size c.pages_allocated-span.ensures.span _ c.in-Ok.ensures.gives

pub zero_block-requires-clause-pages : goal.zero_block-requires-clause-pages
zero_block-requires-clause-pages c = span_lies c.pages_allocated-span.result c.args.pages.now c.allocate.new.map c.allocate.ensures.base c.allocate.ensures.length c.pages_allocated-span.ensures.inside

pub zero_block-requires-clause-bytes : goal.zero_block-requires-clause-bytes
zero_block-requires-clause-bytes c =
    given_bytes c.pages_allocated-span.result c.args.pages.now c.allocate.new.map _ c.args.size c.block_size.result c.allocate.ensures.base c.allocate.ensures.length c.block_size.ensures c.in-Ok.ensures.block
