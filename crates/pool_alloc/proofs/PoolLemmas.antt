-- Pages of the pool.
use Rattle.std.proofs.Common.{◌≡◌, ℕ, zero, suc, ◌+◌, ◌%◌, ◌^◌, ◌<◌, ◌≤◌, List, [], ◌∷◌, ◌++◌, length, take, drop, get_or, refl, sym, ap, ◌∙◌, arith, Bool, true, false, inl, inr, subst}
use Rattle.std.specs.Prelude.{◌&&◌, ◌==◌, Option, Some, None, if◌then◌else◌, slice_set}
use Rattle.std.proofs.lemmas.List.{at_drop_more, at_drop_all, take_more, append_assoc, set_split, get_or_default}
use Rattle.page_alloc.specs.declared.page.Owner.TheVariants.{Pool}
use Rattle.page_alloc.specs.Pages.{PageList}
use Rattle.page_alloc.specs.Calls.{owns}
use Rattle.pool_alloc.specs.Blocks.{lowest}
use Rattle.pool_alloc.specs.Pool.{BlockPage, Placed, gap_on, put_on, put_first, with_block_on, is_shared, pages_of, AreBlocks, IsPage, CanPut, Apart, ApartFrom, IsPool, Together}
use Rattle.pool_alloc.proofs.GapLemmas.{and_true, room_tells}
use Rattle.pool_alloc.proofs.BlockLemmas.{shared_pages, put_blocks, put_pages, lowest_room, lowest_aligned, is_shared_page}

-- a page of a pool
pub page_of : (pool : List BlockPage) (i : ℕ) (d : BlockPage) → IsPool pool → i < length pool → IsPage (get_or pool i d)
page_of [] i d all h = absurd (omega arith)
page_of (page ∷ pages) zero d all h = all.0
page_of (page ∷ pages) (suc i) d all h = page_of pages i d all.2 (omega arith)

-- what stands before the pages that are searched
abbrev pub front : List BlockPage → Option Placed → Option Placed
front before None = None
front before (Some placed) = Some (record { at = placed.at; pages = before ++ placed.pages })

pub front_none : (o : Option Placed) → front [] o ≡ o
front_none None = refl
front_none (Some placed) = refl

over_page : (before : List BlockPage) (page : BlockPage) (pages : List BlockPage) (size : ℕ) (o : Option Placed) → front before (put_on page pages size None o) ≡ front (before ++ page ∷ []) o
over_page before page pages size None = refl
over_page before page pages size (Some placed) = ap (λ ps. Some (record { at = placed.at; pages = ps })) (sym (append_assoc before (page ∷ []) placed.pages))

-- a page without a gap is passed over
pub front_more : (pool : List BlockPage) (i t size : ℕ) (d : BlockPage) → i < length pool → gap_on (get_or pool i d) t size ≡ None
    → front (take i pool) (put_first (drop i pool) t size) ≡ front (take (i + 1) pool) (put_first (drop (i + 1) pool) t size)
unfolding put_first
front_more pool i t size d h none =
    ap (λ o. front (take i pool) o) (at_drop_more (λ ps. put_first ps t size) pool i d h ∙ ap (λ o. put_on (get_or pool i d) (drop (i + 1) pool) size o (put_first (drop (i + 1) pool) t size)) none)
    ∙ over_page (take i pool) (get_or pool i d) (drop (i + 1) pool) size (put_first (drop (i + 1) pool) t size)
    ∙ ap (λ before. front before (put_first (drop (i + 1) pool) t size)) (sym (take_more pool i d h))

pub front_over : (pool : List BlockPage) (i t size : ℕ) → length pool ≤ i → front (take i pool) (put_first (drop i pool) t size) ≡ None
unfolding put_first
front_over pool i t size h = ap (λ o. front (take i pool) o) (at_drop_all (λ ps. put_first ps t size) pool i h)

-- a page with a gap takes the block
pub front_here : (pool : List BlockPage) (i t size offset : ℕ) (d : BlockPage) → i < length pool → gap_on (get_or pool i d) t size ≡ Some offset
    → front (take i pool) (put_first (drop i pool) t size) ≡ Some (record { at = (get_or pool i d).start + offset; pages = slice_set pool i (with_block_on (get_or pool i d) offset size) })
unfolding put_first
front_here pool i t size offset d h found =
    let next : i + 1 ≡ suc i = omega arith in
    ap (λ o. front (take i pool) o) (at_drop_more (λ ps. put_first ps t size) pool i d h ∙ ap (λ o. put_on (get_or pool i d) (drop (i + 1) pool) size o (put_first (drop (i + 1) pool) t size)) found)
    ∙ ap (λ ps. Some (record { at = (get_or pool i d).start + offset; pages = ps }))
    (ap (λ n. take i pool ++ with_block_on (get_or pool i d) offset size ∷ drop n pool) next ∙ sym (set_split pool i (with_block_on (get_or pool i d) offset size) h))

-- a gap that was found may be taken
pub can_put : (page : BlockPage) (t size offset : ℕ) → IsPage page → 0 < size → size ≤ 2048 → size % 8 ≡ 0 → gap_on page t size ≡ Some offset → CanPut page.blocks offset size
unfolding gap_on
can_put page t size offset is some small by_eight e = by (page.memory_type == t && is_shared page.blocks) refl e
  where
    by : (b : Bool) → (page.memory_type == t && is_shared page.blocks) ≡ b → (if b then lowest page.blocks size else None) ≡ Some offset → CanPut page.blocks offset size
    by true h found =
        let shared = is_shared_page page.blocks is.blocks (and_true (page.memory_type == t) (is_shared page.blocks) h).1 in
        record { shared = shared; room = lowest_room page.blocks size offset some found; some = some; small = small; aligned = lowest_aligned page.blocks size offset some shared found; rounded = by_eight }
    by false h found = absurd (cc)

-- a page with other blocks in its place
pub record SamePlace (p q : BlockPage) : Type 0 where
  pub start : q.start ≡ p.start
  pub pages : pages_of q.blocks ≡ pages_of p.blocks

apart_left : (p p' q : BlockPage) → SamePlace p p' → Apart p q → Apart p' q
apart_left p p' q same (inl h) = let s = same.start in let n = same.pages in inl (omega (arith, s, n))
apart_left p p' q same (inr h) = let s = same.start in let n = same.pages in inr (omega (arith, s, n))

apart_right : (p q q' : BlockPage) → SamePlace q q' → Apart p q → Apart p q'
apart_right p q q' same (inl h) = let s = same.start in let n = same.pages in inl (omega (arith, s, n))
apart_right p q q' same (inr h) = let s = same.start in let n = same.pages in inr (omega (arith, s, n))

from_left : (p p' : BlockPage) (pages : List BlockPage) → SamePlace p p' → ApartFrom p pages → ApartFrom p' pages
from_left p p' [] same h = tt
from_left p p' (q ∷ qs) same h = (apart_left p p' q same h.0, from_left p p' qs same h.1)

from_right : (p : BlockPage) (pages : List BlockPage) (i : ℕ) (q' d : BlockPage) → i < length pages → SamePlace (get_or pages i d) q' → ApartFrom p pages → ApartFrom p (slice_set pages i q')
from_right p [] i q' d h same all = tt
from_right p (q ∷ qs) zero q' d h same all = (apart_right p q q' same all.0, all.1)
from_right p (q ∷ qs) (suc i) q' d h same all = (all.0, from_right p qs i q' d (omega arith) same all.1)

pub pool_set : (pool : List BlockPage) (i : ℕ) (q' d : BlockPage) → i < length pool → SamePlace (get_or pool i d) q' → IsPage q' → IsPool pool → IsPool (slice_set pool i q')
pool_set [] i q' d h same is all = tt
pool_set (p ∷ ps) zero q' d h same is all = (is, from_left p q' ps same all.1, all.2)
pool_set (p ∷ ps) (suc i) q' d h same is all = (all.0, from_right p ps i q' d (omega arith) same all.1, pool_set ps i q' d (omega arith) same is all.2)

pub together_set : (pool : List BlockPage) (m : PageList) (i : ℕ) (q' d : BlockPage) → i < length pool → SamePlace (get_or pool i d) q' → Together pool m → Together (slice_set pool i q') m
together_set [] m i q' d h same all = tt
together_set (p ∷ ps) m zero q' d h same all = (ap (λ s. owns m Pool s (pages_of q'.blocks)) same.start ∙ ap (λ n. owns m Pool p.start n) same.pages ∙ all.0, all.1)
together_set (p ∷ ps) m (suc i) q' d h same all = (all.0, together_set ps m i q' d (omega arith) same all.1)

put_place : (page : BlockPage) (offset size : ℕ) → CanPut page.blocks offset size → SamePlace page (with_block_on page offset size)
put_place page offset size can = record { start = refl; pages = put_pages page.blocks offset size can }

put_page : (page : BlockPage) (offset size : ℕ) → CanPut page.blocks offset size → IsPage page → IsPage (with_block_on page offset size)
put_page page offset size can is = record {
  blocks = put_blocks page.blocks offset size can;
  on_page = is.on_page;
  end = (let e = is.end in let n = put_pages page.blocks offset size can in omega (arith, e, n));
}

pub put_fits : (page : BlockPage) (offset size : ℕ) → IsPage page → CanPut page.blocks offset size → page.start + offset ≤ 2 ^ 47
put_fits page offset size is can =
    let e = is.end in
    let n = shared_pages page.blocks can.shared in
    let ends = (room_tells page.blocks size offset can.room).ends in
    omega (arith, e, n, ends)

pub put_pool : (pool : List BlockPage) (i offset size : ℕ) (d : BlockPage) → i < length pool → CanPut (get_or pool i d).blocks offset size → IsPool pool → IsPool (slice_set pool i (with_block_on (get_or pool i d) offset size))
put_pool pool i offset size d h can all =
    pool_set pool i (with_block_on (get_or pool i d) offset size) d h (put_place (get_or pool i d) offset size can) (put_page (get_or pool i d) offset size can (page_of pool i d all h)) all

pub put_together : (pool : List BlockPage) (m : PageList) (i offset size : ℕ) (d : BlockPage) → i < length pool → CanPut (get_or pool i d).blocks offset size → Together pool m → Together (slice_set pool i (with_block_on (get_or pool i d) offset size)) m
put_together pool m i offset size d h can all = together_set pool m i (with_block_on (get_or pool i d) offset size) d h (put_place (get_or pool i d) offset size can) all

-- a page that is read at a place is the one there at any default
pub read : (s pool : List BlockPage) (i : ℕ) (x d : BlockPage) → s ≡ pool → i < length s → x ≡ get_or s i x → x ≡ get_or pool i d
read s pool i x d e h is = is ∙ get_or_default s i x d h ∙ ap (λ ps. get_or ps i d) e

pub read_page : (s pool : List BlockPage) (i : ℕ) (x : BlockPage) → s ≡ pool → i < length s → x ≡ get_or s i x → IsPool pool → IsPage x
read_page s pool i x e h is all = subst IsPage (sym (read s pool i x x e h is)) (page_of pool i x all (let l = ap length e in omega (arith, l)))

pub read_can : (s pool : List BlockPage) (i t size offset : ℕ) (x d : BlockPage) → s ≡ pool → i < length s → x ≡ get_or s i x → IsPool pool → 0 < size → size ≤ 2048 → size % 8 ≡ 0 → gap_on x t size ≡ Some offset
    → CanPut (get_or pool i d).blocks offset size
read_can s pool i t size offset x d e h is all some small by_eight found =
    subst (λ (p : BlockPage). CanPut p.blocks offset size) (read s pool i x d e h is) (can_put x t size offset (read_page s pool i x e h is all) some small by_eight found)

pub read_here : (s pool : List BlockPage) (i t size offset : ℕ) (x d : BlockPage) → s ≡ pool → i < length s → x ≡ get_or s i x → gap_on x t size ≡ Some offset
    → front (take i s) (put_first (drop i s) t size) ≡ put_first s t size
    → put_first pool t size ≡ Some (record { at = (get_or pool i d).start + offset; pages = slice_set pool i (with_block_on (get_or pool i d) offset size) })
read_here s pool i t size offset x d e h is found so_far =
    let room : gap_on (get_or pool i d) t size ≡ Some offset = ap (λ p. gap_on p t size) (sym (read s pool i x d e h is)) ∙ found in
    let walk : front (take i pool) (put_first (drop i pool) t size) ≡ put_first pool t size = subst (λ ps. front (take i ps) (put_first (drop i ps) t size) ≡ put_first ps t size) e so_far in
    sym walk ∙ front_here pool i t size offset d (let l = ap length e in omega (arith, l)) room

pub read_more : (s : List BlockPage) (i t size : ℕ) (x : BlockPage) → i < length s → x ≡ get_or s i x → gap_on x t size ≡ None
    → front (take i s) (put_first (drop i s) t size) ≡ put_first s t size → front (take (i + 1) s) (put_first (drop (i + 1) s) t size) ≡ put_first s t size
read_more s i t size x h is none so_far = sym (front_more s i t size x h (ap (λ p. gap_on p t size) (sym is) ∙ none)) ∙ so_far

pub read_none : (s pool : List BlockPage) (i t size : ℕ) → s ≡ pool → length s ≤ i → front (take i s) (put_first (drop i s) t size) ≡ put_first s t size → put_first pool t size ≡ None
read_none s pool i t size e h so_far = ap (λ ps. put_first ps t size) (sym e) ∙ sym so_far ∙ front_over s i t size h

-- a page that is written at a place
pub can_there : (s pool : List BlockPage) (i offset size : ℕ) (x : BlockPage) → s ≡ pool → i < length s → x ≡ get_or s i x → ((d : BlockPage) → CanPut (get_or pool i d).blocks offset size) → CanPut x.blocks offset size
can_there s pool i offset size x e h is can = subst (λ (p : BlockPage). CanPut p.blocks offset size) (sym (read s pool i x x e h is)) (can x)

pub write_fits : (s pool : List BlockPage) (i offset size : ℕ) (x : BlockPage) → s ≡ pool → i < length pool → x ≡ get_or s i x → IsPool s → ((d : BlockPage) → CanPut (get_or pool i d).blocks offset size) → x.start + offset ≤ 2 ^ 47
write_fits s pool i offset size x e h is all can =
    let l = ap length e in
    put_fits x offset size (read_page s s i x refl (omega (arith, l)) is all) (can_there s pool i offset size x e (omega (arith, l)) is can)

pub write_pool : (s pool : List BlockPage) (i offset size : ℕ) (x y : BlockPage) → s ≡ pool → i < length pool → x ≡ get_or s i x → IsPool s → ((d : BlockPage) → CanPut (get_or pool i d).blocks offset size) → y ≡ with_block_on x offset size
    → IsPool (slice_set s i y)
write_pool s pool i offset size x y e h is all can same =
    let l = ap length e in
    let inside : i < length s = omega (arith, l) in
    let there : CanPut (get_or s i x).blocks offset size = subst (λ (p : BlockPage). CanPut p.blocks offset size) is (can_there s pool i offset size x e inside is can) in
    subst (λ q. IsPool (slice_set s i q)) (sym (same ∙ ap (λ p. with_block_on p offset size) is)) (put_pool s i offset size x inside there all)

pub write_together : (s pool : List BlockPage) (m : PageList) (i offset size : ℕ) (x y : BlockPage) → s ≡ pool → i < length pool → x ≡ get_or s i x → ((d : BlockPage) → CanPut (get_or pool i d).blocks offset size) → y ≡ with_block_on x offset size
    → Together pool m → Together (slice_set s i y) m
write_together s pool m i offset size x y e h is can same together =
    let l = ap length e in
    let inside : i < length s = omega (arith, l) in
    let there : CanPut (get_or s i x).blocks offset size = subst (λ (p : BlockPage). CanPut p.blocks offset size) is (can_there s pool i offset size x e inside is can) in
    subst (λ q. Together (slice_set s i q) m) (sym (same ∙ ap (λ p. with_block_on p offset size) is)) (put_together s m i offset size x inside there (subst (λ ps. Together ps m) (sym e) together))

pub read_blocks : (s : List BlockPage) (i : ℕ) (x : BlockPage) → i < length s → x ≡ get_or s i x → IsPool s → AreBlocks x.blocks
read_blocks s i x h is all = (read_page s s i x refl h is all).blocks
