use Rattle.pool_alloc.proofs.NewPageLemmas.{span_is}
use Rattle.pool_alloc.proofs.pool.new_pages.Goals as goal

pub returns-in-Ok-clause-span : goal.returns-in-Ok-clause-span
returns-in-Ok-clause-span c = span_is c.args.map.now c.args.memory_type c.args.size _ _ _ c.max.ensures c.pages_for-count.ensures c.in-Ok.ensures.answer

pub returns-in-Err-clause-span : goal.returns-in-Err-clause-span
returns-in-Err-clause-span c = span_is c.args.map.now c.args.memory_type c.args.size _ _ _ c.max.ensures c.pages_for-count.ensures c.in-Err.ensures.answer
