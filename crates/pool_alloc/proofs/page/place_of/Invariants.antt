use Rattle.std.proofs.Common.{◌≡◌, ◌++◌, ℕ, take, drop}
use Rattle.pool_alloc.specs.Blocks.{with_block}
use Rattle.pool_alloc.proofs.page.place_of.Given as goal

abbrev pub invariant-loop-place : goal.invariant-loop-place
invariant-loop-place l = (size : ℕ) → with_block (record { offset = l.offset; size = size }) l.blocks ≡ take l.place l.blocks ++ with_block (record { offset = l.offset; size = size }) (drop l.place l.blocks)
