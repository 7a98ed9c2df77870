use Rattle.pool_alloc.proofs.FreedLemmas.{not_refused}
use Rattle.pool_alloc.proofs.pool.Pool.free.Goals as goal

pub unreachable-requires : goal.unreachable-requires
unreachable-requires c =
    not_refused c.in-Some-default-Some.field-0-1 c.in-Some-default-Some.span _ c.args.map.now c.in-Err.field-0 c.in-Some-default-Some.field-0-1-is
    (c.in-Some-default-Some.ensures.can c.args.map.now c.whole.ensures c.requires) c.in-Err.ensures.answer
