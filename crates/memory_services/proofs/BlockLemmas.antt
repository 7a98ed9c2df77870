-- Blocks of the pool lie in RAM.
use Rattle.std.proofs.Common.{◌≡◌, ◌<◌, ◌≤◌, ◌+◌, ◌*◌, ◌-◌, ◌/◌, ◌%◌, ◌==◌, ℕ, Bool, true, false, cond, List, [], ◌∷◌, length, inl, inr, refl, sym, subst, ap, ◌∙◌, arith}
use Rattle.std.specs.Prelude.{◌&&◌, nat_le, Option, Some, None, IfNone, Result, Ok, Err}
use Rattle.std.specs.List.{find}
use Rattle.std.proofs.lemmas.Bool.Decides.{nat_tests}
use Rattle.page_alloc.specs.declared.page.Owner.TheVariants.{Pool}
use Rattle.page_alloc.specs.declared.page.PageRefusal.{PageRefusal}
use Rattle.page_alloc.specs.Pages.{PageList, Whole, all_from, index_of}
use Rattle.page_alloc.specs.Calls.{owns, may_be_given, allocation}
use Rattle.pool_alloc.specs.declared.block.Block.{Block}
use Rattle.pool_alloc.specs.declared.span.PageSpan.{PageSpan}
use Rattle.pool_alloc.specs.declared.refusal.PoolRefusal.TheVariants.{Invalid}
use Rattle.pool_alloc.specs.Blocks.{rounded, is_large, pages_for}
use Rattle.pool_alloc.specs.Pool.{BlockPage, Placed, Taken, pages_of, put_first, begins_at, without, left_of, take_on, take_first, InOrder, AreBlocks, IsPage, IsPool, Together}
use Rattle.pool_alloc.specs.Calls.{Done, on_pages, on_page, gap_for, pool_allocation, span_at, span_beside, pages_allocated, on_taken, pool_freeing, InRam, BlockInRam}

both : (a b : Bool) → (a && b) ≡ true → (a ≡ true) × (b ≡ true)
both true b e = (refl, e)
both false b e = grind arith

-- ---- pages that are the pool's

owned_lie : (m : PageList) (start count : ℕ) → Whole m → start % 4096 ≡ 0 → owns m Pool start count ≡ true → BlockInRam start (4096 * count) m
unfolding owns all_from
owned_lie m start count whole on e =
    let low = both (nat_le m.base start) _ e in
    let end = both (nat_le (index_of m start + count) (length m.pages)) _ low.1 in
    let a : m.base ≤ start = let l = low.0 in grind (arith, nat_tests) in
    let b : (start - m.base) / 4096 + count ≤ length m.pages = let l = end.0 in grind (arith, nat_tests) in
    let even = whole.ram.on_page in
    (a, omega (arith, a, b, even, on))

some_pages : (blocks : List Block) → AreBlocks blocks → 1 ≤ pages_of blocks
some_pages [] are = absurd are
some_pages (block ∷ blocks) (inl is) = let large = is.large in let h : 2048 < block.size = grind (arith, nat_tests) in omega (arith, h)
some_pages (block ∷ blocks) (inr are) = let h = are.order.1 in omega (arith, h)

-- ---- a block that is given

few_by : (b : Bool) (size : ℕ) → (size == 0) ≡ b → cond b 8 ((size + 7) / 8 * 8) ≤ 2048 → size ≤ 2048
few_by true size e h = let f : size ≡ 0 = grind (arith, nat_tests) in omega (arith, f)
few_by false size e h = omega (arith, h)

few_rounded : (size : ℕ) → rounded size ≤ 2048 → size ≤ 2048
few_rounded size h = few_by (size == 0) size refl h

from_small : (b : Bool) (o : Option Placed) (placed : Placed) → cond b None o ≡ Some placed → b ≡ false
from_small true o placed e = absurd (cc)
from_small false o placed e = refl

no_span : (pool : List BlockPage) (m : PageList) (memory_type size : ℕ) (r : Result ℕ PageRefusal) → span_at (pages_for size) r ≡ None → (done : Done) → on_pages pool m memory_type size r ≡ Ok done → ⊥
no_span pool m memory_type size (Ok start) n done e = absurd (cc)
no_span pool m memory_type size (Err refusal) n done e = absurd (cc)

small_by : (pool : List BlockPage) (m : PageList) (memory_type size : ℕ) → (known : Bool) (gap : Option Placed) → gap_for pool memory_type (rounded size) ≡ gap → cond known (span_beside m memory_type (rounded size) gap) None ≡ None
    → (done : Done) → cond known (on_page pool m memory_type (rounded size) gap) (Err Invalid) ≡ Ok done → size ≤ 2048
small_by pool m memory_type size false gap g n done e = absurd (cc)
small_by pool m memory_type size true None g n done e = absurd (no_span pool m memory_type (rounded size) (allocation m 0 memory_type (pages_for (rounded size)) 0) n done e)
small_by pool m memory_type size true (Some placed) g n done e =
    let f = from_small (is_large (rounded size)) (put_first pool memory_type (rounded size)) placed g in
    let few : rounded size ≤ 2048 = grind (arith, nat_tests) in few_rounded size few

-- a block that goes into a gap is small
pub given_small : (pool : List BlockPage) (m : PageList) (memory_type size : ℕ) → pages_allocated pool m memory_type size ≡ None → (done : Done) → pool_allocation pool m memory_type size ≡ Ok done → size ≤ 2048
unfolding pages_allocated pool_allocation
given_small pool m memory_type size n done e = small_by pool m memory_type size (may_be_given memory_type) (gap_for pool memory_type (rounded size)) refl n done e

-- ---- a block

at_first : (test : Block → Bool) (x b : Block) (rest : Option Block) (P : Block → Type 0) → (t : Bool) → test x ≡ t → P x → (rest ≡ Some b → (test b ≡ true) × P b) → cond t (Some x) rest ≡ Some b → (test b ≡ true) × P b
at_first test x b rest P true h p r e = let s : x ≡ b = cc in subst (λ (k : Block). (test k ≡ true) × P k) s (h, p)
at_first test x b rest P false h p r e = r e

found_ends : (blocks : List Block) (low : ℕ) (test : Block → Bool) (b : Block) → InOrder low blocks → find test blocks ≡ Some b → (test b ≡ true) × (b.offset + b.size ≤ 4096)
found_ends [] low test b o e = absurd (cc)
found_ends (x ∷ xs) low test b o e =
    at_first test x b (find test xs) (λ (k : Block). k.offset + k.size ≤ 4096) (test x) refl o.4 (found_ends xs (x.offset + x.size) test b o.5) e

no_other : (blocks : List Block) (test : Block → Bool) (b : Block) → blocks ≡ [] → find test blocks ≡ Some b → ⊥
no_other [] test b none e = absurd (cc)
no_other (x ∷ xs) test b none e = absurd (cc)

in_blocks : (blocks : List Block) (test : Block → Bool) (b : Block) → AreBlocks blocks → find test blocks ≡ Some b → (test b ≡ true) × (b.offset + b.size ≤ 4096 * pages_of blocks)
in_blocks [] test b are e = absurd are
in_blocks (x ∷ xs) test b (inl is) e =
    let first = is.first in
    at_first test x b (find test xs) (λ (k : Block). k.offset + k.size ≤ 4096 * pages_for x.size) (test x) refl (omega (arith, first)) (λ f. absurd (no_other xs test b is.alone f)) e
in_blocks (x ∷ xs) test b (inr are) e =
    let f = found_ends (x ∷ xs) 0 test b are.order e in
    let end = f.1 in
    let many = some_pages (x ∷ xs) (inr are) in
    (f.0, omega (arith, end, many))

left_size : (page rest : BlockPage) (pages : List BlockPage) (size : ℕ) (blocks : List Block) → (left_of page rest pages size blocks).size ≡ size
left_size page rest pages size [] = refl
left_size page rest pages size (block ∷ blocks) = refl

on_block : (m : PageList) (page : BlockPage) (pages : List BlockPage) (at : ℕ) → Whole m → IsPage page → owns m Pool page.start (pages_of page.blocks) ≡ true
    → (o : Option Block) → find (begins_at page at) page.blocks ≡ o → (others : Option Taken) → ((t : Taken) → others ≡ Some t → BlockInRam at t.size m)
    → (taken : Taken) → take_on page pages at o others ≡ Some taken → BlockInRam at taken.size m
on_block m page pages at whole is owned (Some block) f others rest taken e =
    let s : left_of page (without page at) pages block.size (without page at).blocks ≡ taken = cc in
    let size : block.size ≡ taken.size = sym (left_size page (without page at) pages block.size (without page at).blocks) ∙ ap (λ (t : Taken). t.size) s in
    let b = in_blocks page.blocks (begins_at page at) block is.blocks f in
    let test = b.0 in
    let start : page.start + block.offset ≡ at = grind (arith, nat_tests) in
    let end = b.1 in
    let lie = owned_lie m page.start (pages_of page.blocks) whole is.on_page owned in
    let low = lie.0 in
    let high = lie.1 in
    (omega (arith, start, low), omega (arith, start, size, end, high))
on_block m page pages at whole is owned None f None rest taken e = absurd (cc)
on_block m page pages at whole is owned None f (Some t) rest taken e =
    let size : t.size ≡ taken.size = cc in
    subst (λ (k : ℕ). BlockInRam at k m) size (rest t refl)

taken_lies : (pool : List BlockPage) (m : PageList) (at : ℕ) → Whole m → IsPool pool → Together pool m → (taken : Taken) → take_first pool at ≡ Some taken → BlockInRam at taken.size m
unfolding take_first
taken_lies [] m at whole is t taken e = absurd (cc)
taken_lies (page ∷ pages) m at whole is t taken e =
    on_block m page pages at whole is.0 t.0 (find (begins_at page at) page.blocks) refl (take_first pages at) (taken_lies pages m at whole is.2 t.1) taken e

freed_by_taken : (pool : List BlockPage) (m : PageList) (at : ℕ) → Whole m → IsPool pool → Together pool m → (o : Option Taken) → take_first pool at ≡ o → (done : Done) → on_taken m o ≡ Ok done → BlockInRam at done.answer m
freed_by_taken pool m at whole is t None f done e = absurd (cc)
freed_by_taken pool m at whole is t (Some taken) f done e =
    let size : taken.size ≡ done.answer = cc in
    subst (λ (k : ℕ). BlockInRam at k m) size (taken_lies pool m at whole is t taken f)

-- a block that is taken back lies in RAM
pub freed_lies : (pool : List BlockPage) (m : PageList) (at : ℕ) → Whole m → IsPool pool → Together pool m → (done : Done) → pool_freeing pool m at ≡ Ok done → BlockInRam at done.answer m
unfolding pool_freeing
freed_lies pool m at whole is t done e = freed_by_taken pool m at whole is t (take_first pool at) refl done e

-- ---- what a call zeroes

bytes_stay : (m n : PageList) (at size : ℕ) → n.base ≡ m.base → length n.pages ≡ length m.pages → BlockInRam at size m → BlockInRam at size n
bytes_stay m n at size b l h = let low = h.0 in let high = h.1 in (omega (arith, b, low), omega (arith, b, l, high))

span_stays : (m n : PageList) (span : PageSpan) → n.base ≡ m.base → length n.pages ≡ length m.pages → InRam (Some span) m → InRam (Some span) n
span_stays m n span b l h = let low = h.0 in let high = h.1 in (omega (arith, b, low), omega (arith, b, l, high))

pub span_lies : (span : Option PageSpan) (m n : PageList) → n.base ≡ m.base → length n.pages ≡ length m.pages → InRam span m → InRam span n
span_lies None m n b l h = tt
span_lies (Some span) m n b l h = span_stays m n span b l h

pub freed_bytes : (span : Option PageSpan) (pool : List BlockPage) (m n : PageList) (at : ℕ) → Whole m → IsPool pool → Together pool m → n.base ≡ m.base → length n.pages ≡ length m.pages
    → (done : Done) → pool_freeing pool m at ≡ Ok done → IfNone span (BlockInRam at done.answer n)
freed_bytes None pool m n at whole is t b l done e = bytes_stay m n at done.answer b l (freed_lies pool m at whole is t done e)
freed_bytes (Some span) pool m n at whole is t b l done e = tt

pub given_bytes : (span : Option PageSpan) (m n : PageList) (at size bytes : ℕ) → n.base ≡ m.base → length n.pages ≡ length m.pages → IfNone span (bytes ≡ rounded size) → BlockInRam at (rounded size) m → IfNone span (BlockInRam at bytes n)
given_bytes None m n at size bytes b l same h = subst (λ (k : ℕ). BlockInRam at k n) (sym same) (bytes_stay m n at (rounded size) b l h)
given_bytes (Some span) m n at size bytes b l same h = tt

pub small_block : (span : Option PageSpan) (pool : List BlockPage) (m : PageList) (memory_type size : ℕ) → span ≡ pages_allocated pool m memory_type size → (done : Done) → pool_allocation pool m memory_type size ≡ Ok done → IfNone span (size ≤ 2048)
small_block None pool m memory_type size h done e = given_small pool m memory_type size (sym h) done e
small_block (Some span) pool m memory_type size h done e = tt
