-- Pages that a search passes over.
use Rattle.std.proofs.Common.{◌≡◌, ℕ, zero, suc, ◌+◌, ◌-◌, ◌<◌, ◌≤◌, List, [], ◌∷◌, length, drop, get_or, refl, sym, ap, ◌∙◌, arith, Bool, true, false, ◌⊎◌, inl, inr, max, subst}
use Rattle.std.specs.Prelude.{◌&&◌, ◌==◌, nat_le, not, Option, Some, None, insert, remove, position, if◌then◌else◌}
use Rattle.std.specs.List.{list_all}
use Rattle.std.proofs.lemmas.Bool.Decides.{nat_tests, Decides-eqb}
use Rattle.std.proofs.lemmas.List.{at_drop_more}
use Rattle.std.proofs.lemmas.List.Quantifiers.{position-Some}
use Rattle.pool_alloc.specs.declared.block.Block.{Block}
use Rattle.pool_alloc.specs.Blocks.{lowest, is_large, with_block}
use Rattle.pool_alloc.specs.Pool.{BlockPage, begins_at, gap_on, is_shared, InOrder, AreShared, AreBlocks, CanPut, NoGapOver}
use Rattle.pool_alloc.proofs.GapLemmas.{IsLeast, Gap, lowest_is, gap_from, gap_is_lowest, gap_none, and_true}
use Rattle.pool_alloc.proofs.BlockLemmas.{is_shared_page, put_is_shared}
use Rattle.pool_alloc.proofs.RestLemmas.{order_weaker}

-- no gap is longer than a page
pub none_over : (blocks : List Block) → NoGapOver 4096 blocks
none_over blocks shared size over = by (lowest blocks size) refl (lowest_is blocks size (omega arith))
  where
    by : (o : Option ℕ) → lowest blocks size ≡ o → IsLeast (Gap blocks size 0) o → o ≡ None
    by None e h = refl
    by (Some n) e h = absurd (let ends = h.0.ends in omega arith)

-- a gap that is too short is passed over
pub gap_over : (blocks : List Block) (i end size : ℕ) (d : Block) → i < length blocks → end ≤ (get_or blocks i d).offset → (get_or blocks i d).offset - end < size
    → gap_from end (drop i blocks) size ≡ gap_from ((get_or blocks i d).offset + (get_or blocks i d).size) (drop (i + 1) blocks) size
gap_over blocks i end size d h low short =
    let l : (get_or blocks i d).offset < end + size = omega arith in
    let over : nat_le (end + size) (get_or blocks i d).offset ≡ false = grind (arith, nat_tests) in
    at_drop_more (λ bs. gap_from end bs size) blocks i d h ∙ rw over refl

pub more_over : (blocks : List Block) (i end longest : ℕ) (d : Block) → i < length blocks → end ≤ (get_or blocks i d).offset → ((size : ℕ) → longest < size → gap_from end (drop i blocks) size ≡ gap_from 0 blocks size)
    → (size : ℕ) → max longest ((get_or blocks i d).offset - end) < size → gap_from ((get_or blocks i d).offset + (get_or blocks i d).size) (drop (i + 1) blocks) size ≡ gap_from 0 blocks size
more_over blocks i end longest d h low so_far size over =
    sym (gap_over blocks i end size d h low (omega arith)) ∙ so_far size (omega arith)

pub all_over : (blocks : List Block) (i end longest most : ℕ) → most ≡ max longest (4096 - end) → length blocks ≤ i → end ≤ 4096 → AreShared blocks → ((size : ℕ) → longest < size → gap_from end (drop i blocks) size ≡ gap_from 0 blocks size)
    → (size : ℕ) → most < size → lowest blocks size ≡ None
all_over blocks i end longest most is h low shared so_far size over =
    sym (gap_is_lowest blocks size (omega arith) shared) ∙ sym (so_far size (omega arith)) ∙ gap_none blocks i end size h low (omega arith)

-- so a page whose gaps are all shorter has no room
pub no_room : (page : BlockPage) (t size most : ℕ) → AreBlocks page.blocks → is_shared page.blocks ≡ true → NoGapOver most page.blocks → most < size → None ≡ gap_on page t size
unfolding gap_on
no_room page t size most blocks shared none over = by (page.memory_type == t && is_shared page.blocks)
  where
    by : (b : Bool) → None ≡ (if b then lowest page.blocks size else None)
    by true = sym (none (is_shared_page page.blocks blocks shared) size over)
    by false = refl

-- blocks with one taken out
remove_order : (blocks : List Block) (low i : ℕ) → InOrder low blocks → InOrder low (remove blocks i)
remove_order [] low zero order = tt
remove_order [] low (suc i) order = tt
remove_order (b ∷ bs) low zero order = let from = order.0 in order_weaker low (b.offset + b.size) bs (omega arith) order.5
remove_order (b ∷ bs) low (suc i) order = (order.0, order.1, order.2, order.3, order.4, remove_order bs (b.offset + b.size) i order.5)

remove_shared : (blocks : List Block) (i : ℕ) → is_shared blocks ≡ true → is_shared (remove blocks i) ≡ true
remove_shared [] zero h = refl
remove_shared [] (suc i) h = refl
remove_shared (b ∷ bs) zero h = (and_true (not (is_large b.size)) (list_all (λ c. not (is_large c.size)) bs) h).1
remove_shared (b ∷ bs) (suc i) h = let p = and_true (not (is_large b.size)) (list_all (λ c. not (is_large c.size)) bs) h in rw (p.0) (remove_shared bs i p.1)

pub left_shared : (blocks : List Block) (i : ℕ) → AreBlocks blocks → i < length blocks → AreShared (remove blocks i)
left_shared [] i all h = absurd all
left_shared (b ∷ bs) i (inr shared) h = record { shared = remove_shared (b ∷ bs) i shared.shared; order = remove_order (b ∷ bs) 0 i shared.order }
left_shared (b ∷ bs) i (inl large) h = alone bs i large.alone h
  where
    alone : (cs : List Block) (k : ℕ) → cs ≡ [] → k < length (b ∷ cs) → AreShared (remove (b ∷ cs) k)
    alone [] zero none l = record { shared = refl; order = tt }
    alone [] (suc k) none l = absurd (omega arith)
    alone (c ∷ cs) k none l = absurd (cc)

-- blocks begin on their first page
on_first : (blocks : List Block) (low i : ℕ) (d : Block) → InOrder low blocks → i < length blocks → (get_or blocks i d).offset < 4096
on_first [] low i d order h = absurd (omega arith)
on_first (b ∷ bs) low zero d order h = let some = order.1 in let end = order.4 in omega arith
on_first (b ∷ bs) low (suc i) d order h = on_first bs (b.offset + b.size) i d order.5 (omega arith)

pub begins_low : (blocks : List Block) (i : ℕ) (d : Block) → AreBlocks blocks → i < length blocks → (get_or blocks i d).offset < 4096
begins_low [] i d all h = absurd all
begins_low (b ∷ bs) i d (inr shared) h = on_first (b ∷ bs) 0 i d shared.order h
begins_low (b ∷ bs) i d (inl large) h = alone bs i large.alone h
  where
    alone : (cs : List Block) (k : ℕ) → cs ≡ [] → k < length (b ∷ cs) → (get_or (b ∷ cs) k d).offset < 4096
    alone [] zero none l = let first = large.first in omega arith
    alone [] (suc k) none l = absurd (omega arith)
    alone (c ∷ cs) k none l = absurd (cc)

blank : Block
blank = record { offset = 0; size = 0 }

pub elsewhere : (page : BlockPage) (at : ℕ) → AreBlocks page.blocks → (at < page.start) ⊎ (4096 ≤ at - page.start) → None ≡ position (begins_at page at) page.blocks
elsewhere page at blocks away = by (position (begins_at page at) page.blocks) refl
  where
    by : (o : Option ℕ) → position (begins_at page at) page.blocks ≡ o → None ≡ o
    by None e = refl
    by (Some i) e = absurd (
        let p = position-Some (begins_at page at) page.blocks i blank e in
        let there : page.start + (get_or page.blocks i blank).offset ≡ at = (Decides-eqb (page.start + (get_or page.blocks i blank).offset) at).0 p.1 in
        let low : (get_or page.blocks i blank).offset < 4096 = begins_low page.blocks i blank blocks p.0 in
        elim away [ inl before ↦ omega arith | inr behind ↦ omega arith ])

-- the blocks behind a change, as the code has them
pub put_there : (blocks fields s new z : List Block) (place offset size : ℕ) → fields ≡ blocks → s ≡ fields
    → ((n : ℕ) → with_block (record { offset = offset; size = n }) s ≡ insert s place (record { offset = offset; size = n })) → new ≡ insert fields place (record { offset = offset; size = size }) → z ≡ new
    → CanPut blocks offset size → AreShared z
put_there blocks fields s new z place offset size v e placed i f can =
    subst AreShared (sym (f ∙ i ∙ ap (λ bs. insert bs place (record { offset = offset; size = size })) (sym e) ∙ sym (placed size) ∙ ap (λ bs. with_block (record { offset = offset; size = size }) bs) (e ∙ v)))
    (put_is_shared blocks offset size can)

pub left_there : (blocks fields new z : List Block) (place : ℕ) → fields ≡ blocks → new ≡ remove fields place → z ≡ new → AreBlocks blocks → place < length blocks → AreShared z
left_there blocks fields new z place v i f all h = subst AreShared (sym (f ∙ i ∙ ap (λ bs. remove bs place) v)) (left_shared blocks place all h)
