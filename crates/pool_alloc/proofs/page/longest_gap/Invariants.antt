use Rattle.std.proofs.Common.{◌≡◌, ◌<◌, ◌≤◌, ℕ, drop}
use Rattle.pool_alloc.specs.Pool.{InOrder}
use Rattle.pool_alloc.proofs.GapLemmas.{gap_from}
use Rattle.pool_alloc.proofs.page.longest_gap.Given as goal

abbrev pub invariant-loop-block : goal.invariant-loop-block
invariant-loop-block l = record {
  order : InOrder l.end (drop l.block-index l.blocks);
  low : l.end ≤ 4096;
  same : (size : ℕ) → l.longest < size → gap_from l.end (drop l.block-index l.blocks) size ≡ gap_from 0 l.blocks size;
}
