use Rattle.std.proofs.Common.{◌≡◌, ◌≤◌, drop}
use Rattle.pool_alloc.specs.Pool.{InOrder}
use Rattle.pool_alloc.proofs.GapLemmas.{gap_from}
use Rattle.pool_alloc.proofs.page.lowest_gap.Given as goal

abbrev pub invariant-loop-block : goal.invariant-loop-block
invariant-loop-block l = record {
  order : InOrder l.end (drop l.block-index l.blocks);
  low : l.end ≤ 4096;
  same : gap_from l.end (drop l.block-index l.blocks) l.size ≡ gap_from 0 l.blocks l.size;
}
