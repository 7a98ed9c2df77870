-- What the definitions come to.
use Rattle.std.proofs.Common.{◌≡◌, ℕ, zero, suc, ◌+◌, ◌*◌, ◌/◌, ◌%◌, ◌<◌, ◌≤◌, List, [], ◌∷◌, length, get_or, arith, inl, inr}
use Rattle.std.specs.Prelude.{Option, Some, None}
use Rattle.pool_alloc.specs.declared.block.Block.{Block}
use Rattle.pool_alloc.specs.Blocks.{has_room, lowest}
use Rattle.pool_alloc.specs.Pool.{BlockPage, InOrder, AreBlocks, IsLarge, AreShared, Apart, ApartFrom, IsPool}
use Rattle.pool_alloc.specs.Laws.{IsLowest, LowestIsLowest, AreApart, PoolIsApart}
use Rattle.pool_alloc.proofs.GapLemmas.{tells, IsLeast, Gap, lowest_is, room_is, room_tells}
use Rattle.pool_alloc.proofs.BlockLemmas.{shared_pages}
use Rattle.pool_alloc.proofs.PoolLemmas.{page_of}

lowest_by : (blocks : List Block) (size : ℕ) (o : Option ℕ) → IsLeast (Gap blocks size 0) o → IsLowest blocks size o
lowest_by blocks size None h = λ n. elim (tells (has_room blocks size n)) [ inr no_room ↦ no_room | inl room ↦ absurd (h n (room_tells blocks size n room)) ]
lowest_by blocks size (Some first) h = (room_is blocks size first h.0, λ n room. h.1 n (room_tells blocks size n room))

pub lowest_is_lowest : LowestIsLowest
lowest_is_lowest blocks size some = lowest_by blocks size (lowest blocks size) (lowest_is blocks size some)

-- blocks in order
record Lies (low : ℕ) (b : Block) : Type 0 where
  from : low ≤ b.offset
  aligned : b.offset % 8 ≡ 0
  rounded : b.size % 8 ≡ 0
  inside : b.offset + b.size ≤ 4096

lies : (blocks : List Block) (low i : ℕ) (d : Block) → InOrder low blocks → i < length blocks → Lies low (get_or blocks i d)
lies [] low i d order h = absurd (omega arith)
lies (b ∷ bs) low zero d order h = record { from = order.0; aligned = order.2; rounded = order.3; inside = order.4 }
lies (b ∷ bs) low (suc i) d order h =
    let l = lies bs (b.offset + b.size) i d order.5 (omega arith) in
    let begins = order.0 in
    let from = l.from in
    record { from = omega arith; aligned = l.aligned; rounded = l.rounded; inside = l.inside }

in_order : (blocks : List Block) (low i j : ℕ) (d : Block) → InOrder low blocks → i < j → j < length blocks → (get_or blocks i d).offset + (get_or blocks i d).size ≤ (get_or blocks j d).offset
in_order [] low i j d order l h = absurd (omega arith)
in_order (b ∷ bs) low i zero d order l h = absurd (omega arith)
in_order (b ∷ bs) low zero (suc j) d order l h = (lies bs (b.offset + b.size) j d order.5 (omega arith)).from
in_order (b ∷ bs) low (suc i) (suc j) d order l h = in_order bs (b.offset + b.size) i j d order.5 (omega arith) (omega arith)

shared_apart : (start t : ℕ) (blocks : List Block) → AreShared blocks → AreApart (record { start = start; memory_type = t; blocks = blocks })
shared_apart start t blocks shared =
    let one = shared_pages blocks shared in
    record {
      aligned = λ i d h. (lies blocks 0 i d shared.order h).aligned;
      rounded = λ i d h. (lies blocks 0 i d shared.order h).rounded;
      inside = λ i d h. (let l = (lies blocks 0 i d shared.order h).inside in omega (arith, l, one));
      apart = λ i j d l h. in_order blocks 0 i j d shared.order l h;
    }

large_apart : (start t : ℕ) (b : Block) (bs : List Block) → bs ≡ [] → IsLarge b bs → AreApart (record { start = start; memory_type = t; blocks = b ∷ bs })
large_apart start t b (c ∷ cs) none large = absurd (cc)
large_apart start t b [] none large =
    let first = large.first in
    let rounded = large.rounded in
    record {
      aligned = one_aligned;
      rounded = one_rounded;
      inside = one_inside;
      apart = λ i j d l h. absurd (omega arith);
    }
  where
    one_aligned : (i : ℕ) (d : Block) → i < 1 → (get_or (b ∷ []) i d).offset % 8 ≡ 0
    one_aligned zero d h = let first = large.first in omega arith
    one_aligned (suc i) d h = absurd (omega arith)

    one_rounded : (i : ℕ) (d : Block) → i < 1 → (get_or (b ∷ []) i d).size % 8 ≡ 0
    one_rounded zero d h = large.rounded
    one_rounded (suc i) d h = absurd (omega arith)

    one_inside : (i : ℕ) (d : Block) → i < 1 → (get_or (b ∷ []) i d).offset + (get_or (b ∷ []) i d).size ≤ 4096 * ((b.size + 4095) / 4096)
    one_inside zero d h = let first = large.first in omega arith
    one_inside (suc i) d h = absurd (omega arith)

blocks_apart : (start t : ℕ) (blocks : List Block) → AreBlocks blocks → AreApart (record { start = start; memory_type = t; blocks = blocks })
blocks_apart start t [] all = absurd all
blocks_apart start t (b ∷ bs) (inl large) = large_apart start t b bs large.alone large
blocks_apart start t (b ∷ bs) (inr shared) = shared_apart start t (b ∷ bs) shared

-- pages of a pool
from_there : (p : BlockPage) (pages : List BlockPage) (j : ℕ) (d : BlockPage) → ApartFrom p pages → j < length pages → Apart p (get_or pages j d)
from_there p [] j d all h = absurd (omega arith)
from_there p (q ∷ qs) zero d all h = all.0
from_there p (q ∷ qs) (suc j) d all h = from_there p qs j d all.1 (omega arith)

pages_apart : (pool : List BlockPage) (i j : ℕ) (d : BlockPage) → IsPool pool → i < j → j < length pool → Apart (get_or pool i d) (get_or pool j d)
pages_apart [] i j d all l h = absurd (omega arith)
pages_apart (p ∷ ps) i zero d all l h = absurd (omega arith)
pages_apart (p ∷ ps) zero (suc j) d all l h = from_there p ps j d all.1 (omega arith)
pages_apart (p ∷ ps) (suc i) (suc j) d all l h = pages_apart ps i j d all.2 (omega arith) (omega arith)

pub pool_is_apart : PoolIsApart
pool_is_apart pool all = (
  λ i d h. blocks_apart (get_or pool i d).start (get_or pool i d).memory_type (get_or pool i d).blocks (page_of pool i d all h).blocks,
  λ i j d l h. pages_apart pool i j d all l h,
)
