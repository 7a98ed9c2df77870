-- Blocks of the pool lie in RAM.
use Rattle.std.proofs.Common.{◌≡◌, ◌<◌, ◌≤◌, ◌+◌, ◌*◌, ◌-◌, ◌/◌, ◌%◌, ℕ, Bool, true, false, cond, List, [], ◌∷◌, length, inl, inr, refl, sym, subst, ap, ◌∙◌, arith}
use Rattle.std.specs.Prelude.{◌&&◌, nat_le, Option, Some, None, Result, Ok, Err}
use Rattle.std.specs.List.{find}
use Rattle.std.proofs.lemmas.Bool.Decides.{nat_tests}
use Rattle.page_alloc.specs.declared.page.Owner.TheVariants.{Pool}
use Rattle.page_alloc.specs.Pages.{PageList, Whole, all_from, index_of}
use Rattle.page_alloc.specs.declared.page.PageRefusal.{PageRefusal}
use Rattle.page_alloc.specs.Calls.{owns, allocation}
use Rattle.page_alloc.specs.Laws.{GivenAreOwned}
use Rattle.pool_alloc.specs.declared.block.Block.{Block}
use Rattle.pool_alloc.specs.declared.span.PageSpan.{PageSpan}
use Rattle.pool_alloc.specs.Blocks.{pages_for, lowest}
use Rattle.pool_alloc.specs.Pool.{BlockPage, Placed, Taken, pages_of, gap_on, put_on, put_first, begins_at, without, left_of, take_on, take_first, InOrder, AreBlocks, IsPage, IsPool, Together}
use Rattle.pool_alloc.specs.Calls.{Done, on_pages, on_page, pool_allocation, on_taken, pool_freeing, InRam, BlockInRam}
use Rattle.pool_alloc.specs.Laws.{IsLowest, LowestIsLowest}
use Rattle.guest_memory.specs.Pages.{Pages}
use Rattle.image_services.specs.Blocks.{block_size, block_type}
use Rattle.image_services.specs.Loads.{Place}
use Rattle.image_services.specs.Views.{AreWithin, Within}
use Rattle.image_services.specs.Unloads.{ClearedInRam}

both : (a b : Bool) → (a && b) ≡ true → (a ≡ true) × (b ≡ true)
both true b e = (refl, e)
both false b e = grind arith

-- ---- pages that are the pool's

owned_lie : (m : PageList) (start count : ℕ) → Whole m → start % 4096 ≡ 0 → owns m Pool start count ≡ true → BlockInRam start (4096 * count) m
unfolding owns all_from
owned_lie m start count whole on e =
    let low = both (nat_le m.base start) _ e in
    let end = both (nat_le (index_of m start + count) (length m.pages)) _ low.1 in
    let a : m.base ≤ start = let l = low.0 in grind (arith, nat_tests) in
    let b : (start - m.base) / 4096 + count ≤ length m.pages = let l = end.0 in grind (arith, nat_tests) in
    let even = whole.ram.on_page in
    (a, omega (arith, a, b, even, on))

some_pages : (blocks : List Block) → AreBlocks blocks → 1 ≤ pages_of blocks
some_pages [] are = absurd are
some_pages (block ∷ blocks) (inl is) = let large = is.large in let h : 2048 < block.size = grind (arith, nat_tests) in omega (arith, h)
some_pages (block ∷ blocks) (inr are) = let h = are.order.1 in omega (arith, h)

-- ---- a block

at_first : (test : Block → Bool) (x b : Block) (rest : Option Block) (P : Block → Type 0) → (t : Bool) → test x ≡ t → P x → (rest ≡ Some b → (test b ≡ true) × P b) → cond t (Some x) rest ≡ Some b → (test b ≡ true) × P b
at_first test x b rest P true h p r e = let s : x ≡ b = cc in subst (λ (k : Block). (test k ≡ true) × P k) s (h, p)
at_first test x b rest P false h p r e = r e

found_ends : (blocks : List Block) (low : ℕ) (test : Block → Bool) (b : Block) → InOrder low blocks → find test blocks ≡ Some b → (test b ≡ true) × (b.offset + b.size ≤ 4096)
found_ends [] low test b o e = absurd (cc)
found_ends (x ∷ xs) low test b o e =
    at_first test x b (find test xs) (λ (k : Block). k.offset + k.size ≤ 4096) (test x) refl o.4 (found_ends xs (x.offset + x.size) test b o.5) e

no_other : (blocks : List Block) (test : Block → Bool) (b : Block) → blocks ≡ [] → find test blocks ≡ Some b → ⊥
no_other [] test b none e = absurd (cc)
no_other (x ∷ xs) test b none e = absurd (cc)

in_blocks : (blocks : List Block) (test : Block → Bool) (b : Block) → AreBlocks blocks → find test blocks ≡ Some b → (test b ≡ true) × (b.offset + b.size ≤ 4096 * pages_of blocks)
in_blocks [] test b are e = absurd are
in_blocks (x ∷ xs) test b (inl is) e =
    let first = is.first in
    at_first test x b (find test xs) (λ (k : Block). k.offset + k.size ≤ 4096 * pages_for x.size) (test x) refl (omega (arith, first)) (λ f. absurd (no_other xs test b is.alone f)) e
in_blocks (x ∷ xs) test b (inr are) e =
    let f = found_ends (x ∷ xs) 0 test b are.order e in
    let end = f.1 in
    let many = some_pages (x ∷ xs) (inr are) in
    (f.0, omega (arith, end, many))

left_size : (page rest : BlockPage) (pages : List BlockPage) (size : ℕ) (blocks : List Block) → (left_of page rest pages size blocks).size ≡ size
left_size page rest pages size [] = refl
left_size page rest pages size (block ∷ blocks) = refl

on_block : (m : PageList) (page : BlockPage) (pages : List BlockPage) (at : ℕ) → Whole m → IsPage page → owns m Pool page.start (pages_of page.blocks) ≡ true
    → (o : Option Block) → find (begins_at page at) page.blocks ≡ o → (others : Option Taken) → ((t : Taken) → others ≡ Some t → BlockInRam at t.size m)
    → (taken : Taken) → take_on page pages at o others ≡ Some taken → BlockInRam at taken.size m
on_block m page pages at whole is owned (Some block) f others rest taken e =
    let s : left_of page (without page at) pages block.size (without page at).blocks ≡ taken = cc in
    let size : block.size ≡ taken.size = sym (left_size page (without page at) pages block.size (without page at).blocks) ∙ ap (λ (t : Taken). t.size) s in
    let b = in_blocks page.blocks (begins_at page at) block is.blocks f in
    let test = b.0 in
    let start : page.start + block.offset ≡ at = grind (arith, nat_tests) in
    let end = b.1 in
    let lie = owned_lie m page.start (pages_of page.blocks) whole is.on_page owned in
    let low = lie.0 in
    let high = lie.1 in
    (omega (arith, start, low), omega (arith, start, size, end, high))
on_block m page pages at whole is owned None f None rest taken e = absurd (cc)
on_block m page pages at whole is owned None f (Some t) rest taken e =
    let size : t.size ≡ taken.size = cc in
    subst (λ (k : ℕ). BlockInRam at k m) size (rest t refl)

taken_lies : (pool : List BlockPage) (m : PageList) (at : ℕ) → Whole m → IsPool pool → Together pool m → (taken : Taken) → take_first pool at ≡ Some taken → BlockInRam at taken.size m
unfolding take_first
taken_lies [] m at whole is t taken e = absurd (cc)
taken_lies (page ∷ pages) m at whole is t taken e =
    on_block m page pages at whole is.0 t.0 (find (begins_at page at) page.blocks) refl (take_first pages at) (taken_lies pages m at whole is.2 t.1) taken e

freed_by_taken : (pool : List BlockPage) (m : PageList) (at : ℕ) → Whole m → IsPool pool → Together pool m → (o : Option Taken) → take_first pool at ≡ o → (done : Done) → on_taken m o ≡ Ok done → BlockInRam at done.answer m
freed_by_taken pool m at whole is t None f done e = absurd (cc)
freed_by_taken pool m at whole is t (Some taken) f done e =
    let size : taken.size ≡ done.answer = cc in
    subst (λ (k : ℕ). BlockInRam at k m) size (taken_lies pool m at whole is t taken f)

-- a block that is taken back lies in RAM
pub freed_lies : (pool : List BlockPage) (m : PageList) (at : ℕ) → Whole m → IsPool pool → Together pool m → (done : Done) → pool_freeing pool m at ≡ Ok done → BlockInRam at done.answer m
unfolding pool_freeing
freed_lies pool m at whole is t done e = freed_by_taken pool m at whole is t (take_first pool at) refl done e

-- ---- a new block

room_ends : (blocks : List Block) (size offset : ℕ) → LowestIsLowest → 0 < size → lowest blocks size ≡ Some offset → offset + size ≤ 4096
room_ends blocks size offset law some e =
    let is : IsLowest blocks size (Some offset) = subst (λ (o : Option ℕ). IsLowest blocks size o) e (law blocks size some) in
    let h = (both (nat_le (offset + size) 4096) _ is.0).0 in
    grind (arith, nat_tests)

chosen : (b : Bool) (o : Option ℕ) (offset : ℕ) → cond b o None ≡ Some offset → o ≡ Some offset
chosen true o offset e = e
chosen false o offset e = absurd (cc)

gap_lowest : (page : BlockPage) (memory_type size offset : ℕ) → gap_on page memory_type size ≡ Some offset → lowest page.blocks size ≡ Some offset
unfolding gap_on
gap_lowest page memory_type size offset e = chosen _ (lowest page.blocks size) offset e

on_gap : (page : BlockPage) (pages : List BlockPage) (memory_type size : ℕ) → LowestIsLowest → 0 < size → IsPage page
    → (o : Option ℕ) → gap_on page memory_type size ≡ o → (others : Option Placed) → ((p : Placed) → others ≡ Some p → p.at % 4096 + size ≤ 4096)
    → (placed : Placed) → put_on page pages size o others ≡ Some placed → placed.at % 4096 + size ≤ 4096
on_gap page pages memory_type size law some is (Some offset) g others rest placed e =
    let at : page.start + offset ≡ placed.at = cc in
    let even = is.on_page in
    let end = room_ends page.blocks size offset law some (gap_lowest page memory_type size offset g) in
    omega (arith, at, even, end, some)
on_gap page pages memory_type size law some is None g None rest placed e = absurd (cc)
on_gap page pages memory_type size law some is None g (Some p) rest placed e =
    let at : p.at ≡ placed.at = cc in
    subst (λ (k : ℕ). k % 4096 + size ≤ 4096) at (rest p refl)

on_first : (pool : List BlockPage) (memory_type size : ℕ) → LowestIsLowest → 0 < size → IsPool pool → (placed : Placed) → put_first pool memory_type size ≡ Some placed → placed.at % 4096 + size ≤ 4096
unfolding put_first
on_first [] memory_type size law some is placed e = absurd (cc)
on_first (page ∷ pages) memory_type size law some is placed e =
    on_gap page pages memory_type size law some is.0 (gap_on page memory_type size) refl (put_first pages memory_type size) (on_first pages memory_type size law some is.2) placed e

-- pages of a map that are given begin at a multiple of 4,096
pub given_even : GivenAreOwned → (m : PageList) (kind memory_type pages at start : ℕ) → Whole m → Ok start ≡ allocation m kind memory_type pages at → start % 4096 ≡ 0
given_even law m kind memory_type pages at start whole e = (law m Pool kind memory_type pages at start whole (sym e)).0.on_page

on_new : (pool : List BlockPage) (m : PageList) (memory_type size : ℕ) → GivenAreOwned → Whole m → size ≤ 4096 → (r : Result ℕ PageRefusal) → allocation m 0 memory_type (pages_for size) 0 ≡ r
    → (done : Done) → on_pages pool m memory_type size r ≡ Ok done → done.answer % 4096 + size ≤ 4096
on_new pool m memory_type size law whole few (Ok start) a done e =
    let at : start ≡ done.answer = cc in
    let even = given_even law m 0 memory_type (pages_for size) 0 start whole (sym a) in
    omega (arith, at, even, few)
on_new pool m memory_type size law whole few (Err refusal) a done e = absurd (cc)

on_either : (pool : List BlockPage) (m : PageList) (memory_type size : ℕ) → LowestIsLowest → GivenAreOwned → Whole m → IsPool pool → 0 < size → size ≤ 4096
    → (gap : Option Placed) → put_first pool memory_type size ≡ gap → (done : Done) → on_page pool m memory_type size gap ≡ Ok done → done.answer % 4096 + size ≤ 4096
on_either pool m memory_type size law given whole is some few None g done e =
    on_new pool m memory_type size given whole few (allocation m 0 memory_type (pages_for size) 0) refl done e
on_either pool m memory_type size law given whole is some few (Some placed) g done e =
    let at : placed.at ≡ done.answer = cc in
    subst (λ (k : ℕ). k % 4096 + size ≤ 4096) at (on_first pool memory_type size law some is placed g)

-- an image's block lies on one page
pub block_on_page : LowestIsLowest → GivenAreOwned → (pool : List BlockPage) (m : PageList) (done : Done) → Whole m → IsPool pool → pool_allocation pool m block_type block_size ≡ Ok done
    → done.answer % 4096 + block_size ≤ 4096
unfolding pool_allocation
block_on_page law given pool m done whole is e = on_either pool m block_type block_size law given whole is (omega arith) (omega arith) (put_first pool block_type block_size) refl done e

-- pages that the pool takes lie in RAM
pub taken_within : (span : Option PageSpan) (m : PageList) (base pages : ℕ) → InRam span m → m.base ≡ base → length m.pages ≡ pages → AreWithin base pages span
taken_within None m base pages h b l = tt
taken_within (Some span) m base pages h b l = let low = h.0 in let high = h.1 in (omega (arith, b, low), omega (arith, b, l, high))

-- ---- what is cleared

-- the page that goes back with a block, or its bytes, lie in a memory that is of the map's RAM
pub freed_block : (span : Option PageSpan) (pool : List BlockPage) (m : PageList) (memory : Pages) (at : ℕ) → Whole m → IsPool pool → Together pool m → InRam span m → m.base ≡ memory.base → length m.pages ≡ memory.pages
    → (done : Done) → pool_freeing pool m at ≡ Ok done → ClearedInRam span memory at done.answer
freed_block None pool m memory at whole is t inside b l done e =
    let lies = freed_lies pool m at whole is t done e in
    let low = lies.0 in let high = lies.1 in (omega (arith, b, low), omega (arith, b, l, high))
freed_block (Some span) pool m memory at whole is t inside b l done e = let low = inside.0 in let high = inside.1 in (omega (arith, b, low), omega (arith, b, l, high))

-- a place of an image in a copy of a map, and of its block in that map behind the image's pages
pub claim_within : (m copied given : PageList) (place : Place) (count : ℕ) → copied ≡ m → given.base ≡ copied.base → length given.pages ≡ length copied.pages
    → copied.base ≤ place.base → place.base + 4096 * count ≤ copied.base + 4096 * length copied.pages → place.base % 4096 ≡ 0
    → BlockInRam place.block block_size given → place.block % 4096 + block_size ≤ 4096 → InRam place.new given → Within m.base (length m.pages) place count
claim_within m copied given place count e b l low high even block one taken =
    let base : copied.base ≡ m.base = ap (λ (m : PageList). m.base) e in
    let long : length copied.pages ≡ length m.pages = ap (λ (m : PageList). length m.pages) e in
    let block_low = block.0 in
    let block_high = block.1 in
    record {
      low = omega (arith, base, low);
      high = omega (arith, base, long, high);
      even = even;
      block_low = omega (arith, base, b, block_low);
      block_high = omega (arith, base, long, b, l, block_high);
      one = one;
      taken = taken_within place.new given m.base (length m.pages) taken (b ∙ base) (l ∙ long);
    }
