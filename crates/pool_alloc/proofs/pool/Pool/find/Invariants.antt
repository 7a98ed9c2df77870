use Rattle.std.proofs.Common.{◌≡◌, take, drop}
use Rattle.pool_alloc.specs.Pool.{take_first, behind}
use Rattle.pool_alloc.proofs.pool.Pool.find.Given as goal

abbrev pub invariant-loop-index : goal.invariant-loop-index
invariant-loop-index l = behind (take l.index l.page-items) (take_first (drop l.index l.page-items) l.at) ≡ take_first l.page-items l.at
