-- Blocks that are put among others and taken out.
use Rattle.std.proofs.Common.{◌≡◌, ℕ, ◌+◌, ◌%◌, ◌<◌, ◌≤◌, List, [], ◌∷◌, length, refl, sym, ◌∙◌, arith, Bool, true, false, inl, inr, subst}
use Rattle.std.specs.Prelude.{not, nat_le, nat_lt, Some, None, if◌then◌else◌}
use Rattle.std.specs.List.{list_all}
use Rattle.std.proofs.lemmas.Bool.Decides.{nat_tests}
use Rattle.pool_alloc.specs.declared.block.Block.{Block}
use Rattle.pool_alloc.specs.Blocks.{with_block, has_room, is_large, pages_for, lowest}
use Rattle.pool_alloc.specs.Pool.{InOrder, AreShared, AreBlocks, CanPut, is_shared, pages_of}
use Rattle.pool_alloc.proofs.GapLemmas.{IsLeast, Gap, lowest_is, room_is, tells, and_true, Free, room_tells, gap_from, gap_is_lowest}

-- a block of at most 2,048 bytes takes one page
one_page : (size : ℕ) → 0 < size → is_large size ≡ false → pages_for size ≡ 1
one_page size some small = let l : size ≤ 2048 = grind (arith, nat_tests) in omega arith

not_large : (size : ℕ) → not (is_large size) ≡ true → is_large size ≡ false
not_large size h = elim (tells (is_large size)) [ inr small ↦ small | inl large ↦ absurd (let clash : not (is_large size) ≡ false = rw large refl in cc) ]

pub shared_pages : (blocks : List Block) → AreShared blocks → pages_of blocks ≡ 1
shared_pages [] shared = refl
shared_pages (b ∷ bs) shared = one_page b.size shared.order.1 (not_large b.size (and_true (not (is_large b.size)) (list_all (λ c. not (is_large c.size)) bs) shared.shared).0)

put_in_order : (blocks : List Block) (low : ℕ) (b : Block) → InOrder low blocks → Free blocks b.size b.offset → low ≤ b.offset → 0 < b.size → b.offset % 8 ≡ 0 → b.size % 8 ≡ 0 → b.offset + b.size ≤ 4096
    → InOrder low (with_block b blocks)
put_in_order [] low b order free from some aligned by_eight end = (from, some, aligned, by_eight, end, tt)
put_in_order (x ∷ xs) low b order free from some aligned by_eight end = by (nat_lt b.offset x.offset) refl (λ after. put_in_order xs (x.offset + x.size) b order.5 free.1 after some aligned by_eight end)
  where
    by : (t : Bool) → nat_lt b.offset x.offset ≡ t → (x.offset + x.size ≤ b.offset → InOrder (x.offset + x.size) (with_block b xs))
        → InOrder low (if t then b ∷ x ∷ xs else x ∷ with_block b xs)
    by true e rest =
        let first : b.offset < x.offset = grind (arith, nat_tests) in
        let size = order.1 in
        let before : b.offset + b.size ≤ x.offset = elim (free.0) [ inl p ↦ p | inr p ↦ absurd (omega arith) ] in
        (from, some, aligned, by_eight, end, (before, order.1, order.2, order.3, order.4, order.5))
    by false e rest =
        let later : x.offset ≤ b.offset = grind (arith, nat_tests) in
        let after : x.offset + x.size ≤ b.offset = elim (free.0) [ inl p ↦ absurd (omega arith) | inr p ↦ p ] in
        (order.0, order.1, order.2, order.3, order.4, rest after)

put_shared : (blocks : List Block) (b : Block) → is_shared blocks ≡ true → is_large b.size ≡ false → is_shared (with_block b blocks) ≡ true
put_shared [] b h s = rw s refl
put_shared (x ∷ xs) b h s =
    let p = and_true (not (is_large x.size)) (list_all (λ c. not (is_large c.size)) xs) h in
    by (nat_lt b.offset x.offset) p.0 (put_shared xs b p.1 s)
  where
    by : (t : Bool) → not (is_large x.size) ≡ true → is_shared (with_block b xs) ≡ true → is_shared (if t then b ∷ x ∷ xs else x ∷ with_block b xs) ≡ true
    by true p rest = rw s h
    by false p rest = rw p rest

pub put_is_shared : (blocks : List Block) (offset size : ℕ) → CanPut blocks offset size → AreShared (with_block (record { offset = offset; size = size }) blocks)
put_is_shared blocks offset size can =
    let room = room_tells blocks size offset can.room in
    let most = can.small in
    let small : is_large size ≡ false = grind (arith, nat_tests) in
    record {
      shared = put_shared blocks (record { offset = offset; size = size }) can.shared.shared small;
      order = put_in_order blocks 0 (record { offset = offset; size = size }) can.shared.order room.free (omega arith) can.some can.aligned can.rounded room.ends;
    }

-- blocks that are there
pub some_blocks : (blocks : List Block) → 0 < length blocks → AreShared blocks → AreBlocks blocks
some_blocks [] h shared = absurd (omega arith)
some_blocks (b ∷ bs) h shared = inr shared

pub put_some : (b : Block) (blocks : List Block) → 0 < length (with_block b blocks)
put_some b [] = omega arith
put_some b (x ∷ xs) = by (nat_lt b.offset x.offset)
  where
    by : (t : Bool) → 0 < length (if t then b ∷ x ∷ xs else x ∷ with_block b xs)
    by true = omega arith
    by false = omega arith

pub put_blocks : (blocks : List Block) (offset size : ℕ) → CanPut blocks offset size → AreBlocks (with_block (record { offset = offset; size = size }) blocks)
put_blocks blocks offset size can = some_blocks (with_block (record { offset = offset; size = size }) blocks) (put_some (record { offset = offset; size = size }) blocks) (put_is_shared blocks offset size can)

pub put_pages : (blocks : List Block) (offset size : ℕ) → CanPut blocks offset size → pages_of (with_block (record { offset = offset; size = size }) blocks) ≡ pages_of blocks
put_pages blocks offset size can = shared_pages (with_block (record { offset = offset; size = size }) blocks) (put_is_shared blocks offset size can) ∙ sym (shared_pages blocks can.shared)

-- the lowest gap begins at a whole unit
gap_aligned : (blocks : List Block) (low size n : ℕ) → InOrder low blocks → low % 8 ≡ 0 → gap_from low blocks size ≡ Some n → n % 8 ≡ 0
gap_aligned [] low size n order aligned e = by (nat_le (low + size) 4096) e
  where
    by : (t : Bool) → (if t then Some low else None) ≡ Some n → n % 8 ≡ 0
    by true h = let same : low ≡ n = cc in rw (← same) aligned
    by false h = absurd (cc)
gap_aligned (b ∷ bs) low size n order aligned e = by (nat_le (low + size) b.offset) e (λ h. let o = order.2 in let s = order.3 in gap_aligned bs (b.offset + b.size) size n order.5 (omega arith) h)
  where
    by : (t : Bool) → (if t then Some low else gap_from (b.offset + b.size) bs size) ≡ Some n → (gap_from (b.offset + b.size) bs size ≡ Some n → n % 8 ≡ 0) → n % 8 ≡ 0
    by true h rest = let same : low ≡ n = cc in rw (← same) aligned
    by false h rest = rest h

pub lowest_aligned : (blocks : List Block) (size n : ℕ) → 0 < size → AreShared blocks → lowest blocks size ≡ Some n → n % 8 ≡ 0
lowest_aligned blocks size n some shared e = gap_aligned blocks 0 size n shared.order (omega arith) (gap_is_lowest blocks size some shared ∙ e)

-- shared blocks of the pool
pub is_shared_page : (blocks : List Block) → AreBlocks blocks → is_shared blocks ≡ true → AreShared blocks
is_shared_page [] all h = absurd all
is_shared_page (b ∷ bs) (inr shared) h = shared
is_shared_page (b ∷ bs) (inl large) h = absurd (
    let p = (and_true (not (is_large b.size)) (list_all (λ c. not (is_large c.size)) bs) h).0 in
    let l = large.large in let clash : not (is_large b.size) ≡ false = rw l refl in cc)

pub lowest_room : (blocks : List Block) (size n : ℕ) → 0 < size → lowest blocks size ≡ Some n → has_room blocks size n ≡ true
lowest_room blocks size n some e =
    let h : IsLeast (Gap blocks size 0) (Some n) = subst (IsLeast (Gap blocks size 0)) e (lowest_is blocks size some) in
    room_is blocks size n h.0

-- the pages that blocks take
pub some_pages : (blocks : List Block) → AreBlocks blocks → 0 < pages_of blocks
some_pages [] all = absurd all
some_pages (b ∷ bs) (inl large) = let l : 2048 < b.size = (let h = large.large in grind (arith, nat_tests)) in omega arith
some_pages (b ∷ bs) (inr shared) = let one = shared_pages (b ∷ bs) shared in omega (arith, one)
