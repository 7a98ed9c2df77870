use Rattle.std.proofs.Common.{◌≡◌, take, drop}
use Rattle.pool_alloc.specs.Pool.{put_first}
use Rattle.pool_alloc.proofs.PoolLemmas.{front}
use Rattle.pool_alloc.proofs.pool.Pool.first_gap.Given as goal

abbrev pub invariant-loop-index : goal.invariant-loop-index
invariant-loop-index l = front (take l.index l.page-items) (put_first (drop l.index l.page-items) l.memory_type l.size) ≡ put_first l.page-items l.memory_type l.size
