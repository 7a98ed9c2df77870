-- What is left of the pool where a block is taken.
use Rattle.std.proofs.Common.{◌≡◌, ◌≢◌, ℕ, zero, suc, ◌+◌, ◌<◌, ◌≤◌, List, [], ◌∷◌, ◌++◌, length, take, drop, get_or, refl, sym, ap, ◌∙◌, arith, Bool, true, false, inl, inr, subst}
use Rattle.std.specs.Prelude.{not, Some, None, if◌then◌else◌, slice_set, remove, position}
use Rattle.std.specs.List.{filter, list_all}
use Rattle.std.proofs.lemmas.Bool.Decides.{nat_tests, Decides-eqb}
use Rattle.std.proofs.lemmas.List.{at_drop_more, set_split}
use Rattle.std.proofs.lemmas.List.Quantifiers.{position-Some}
use Rattle.std.proofs.lemmas.List.Edits.{length-remove}
use Rattle.page_alloc.specs.Pages.{PageList}
use Rattle.pool_alloc.specs.declared.block.Block.{Block}
use Rattle.pool_alloc.specs.Blocks.{is_large}
use Rattle.pool_alloc.specs.Pool.{BlockPage, behind, take_on, take_first, left_of, without, begins_at, is_shared, pages_of, span_of, InOrder, AreBlocks, AreShared, IsPage, IsPool, Together}
use Rattle.pool_alloc.proofs.GapLemmas.{and_true}
use Rattle.pool_alloc.proofs.BlockLemmas.{shared_pages, some_blocks}
use Rattle.pool_alloc.proofs.PoolLemmas.{SamePlace, pool_set, together_set, page_of}
use Rattle.pool_alloc.proofs.TakeLemmas.{find_some}

-- the blocks without the one that begins at an address
abbrev pub others : BlockPage → ℕ → List Block → List Block
others page at blocks = filter (λ block. not (begins_at page at block)) blocks

none_later : (page : BlockPage) (at low : ℕ) (blocks : List Block) → InOrder low blocks → at < page.start + low → others page at blocks ≡ blocks
none_later page at low [] order h = refl
none_later page at low (b ∷ bs) order h =
    let from = order.0 in
    let some = order.1 in
    let apart : begins_at page at b ≡ false = (let ne : page.start + b.offset ≢ at = omega arith in grind (arith, nat_tests)) in
    rw apart (ap (λ xs. b ∷ xs) (none_later page at (b.offset + b.size) bs order.5 (omega arith)))

others_order : (page : BlockPage) (at low place : ℕ) (d : Block) (blocks : List Block) → InOrder low blocks → place < length blocks → begins_at page at (get_or blocks place d) ≡ true
    → ((k : ℕ) → k < place → begins_at page at (get_or blocks k d) ≡ false) → others page at blocks ≡ remove blocks place
others_order page at low place d [] order h here none = absurd (omega arith)
others_order page at low zero d (b ∷ bs) order h here none =
    let some = order.1 in
    let same : page.start + b.offset ≡ at = (Decides-eqb (page.start + b.offset) at).0 here in
    rw here (none_later page at (b.offset + b.size) bs order.5 (omega arith))
others_order page at low (suc place) d (b ∷ bs) order h here none =
    let first : begins_at page at b ≡ false = none 0 (omega arith) in
    rw first (ap (λ xs. b ∷ xs) (others_order page at (b.offset + b.size) place d bs order.5 (omega arith) here (λ k l. none (suc k) (omega arith))))

pub order_weaker : (low high : ℕ) (blocks : List Block) → low ≤ high → InOrder high blocks → InOrder low blocks
order_weaker low high [] h order = tt
order_weaker low high (b ∷ bs) h order = let from = order.0 in (omega arith, order.1, order.2, order.3, order.4, order.5)

keep_order : (test : Block → Bool) (low : ℕ) (blocks : List Block) → InOrder low blocks → InOrder low (filter test blocks)
keep_order test low [] order = tt
keep_order test low (b ∷ bs) order = by (test b) (keep_order test (b.offset + b.size) bs order.5)
  where
    by : (t : Bool) → InOrder (b.offset + b.size) (filter test bs) → InOrder low (if t then b ∷ filter test bs else filter test bs)
    by true rest = (order.0, order.1, order.2, order.3, order.4, rest)
    by false rest = let from = order.0 in order_weaker low (b.offset + b.size) (filter test bs) (omega arith) rest

keep_shared : (test : Block → Bool) (blocks : List Block) → is_shared blocks ≡ true → is_shared (filter test blocks) ≡ true
keep_shared test [] h = refl
keep_shared test (b ∷ bs) h =
    let p = and_true (not (is_large b.size)) (list_all (λ c. not (is_large c.size)) bs) h in
    by (test b) (keep_shared test bs p.1) p.0
  where
    by : (t : Bool) → is_shared (filter test bs) ≡ true → not (is_large b.size) ≡ true → is_shared (if t then b ∷ filter test bs else filter test bs) ≡ true
    by true rest small = rw small rest
    by false rest small = rest

-- a block is the only one at its address
pub others_are : (page : BlockPage) (at place : ℕ) (blocks : List Block) → AreBlocks blocks → position (begins_at page at) blocks ≡ Some place → others page at blocks ≡ remove blocks place
others_are page at place [] all e = absurd all
others_are page at place (b ∷ bs) (inr shared) e =
    let p = position-Some (begins_at page at) (b ∷ bs) place b e in others_order page at 0 place b (b ∷ bs) shared.order p.0 p.1 p.2
others_are page at place (b ∷ bs) (inl large) e = alone bs large.alone e
  where
    alone : (cs : List Block) → cs ≡ [] → position (begins_at page at) (b ∷ cs) ≡ Some place → others page at (b ∷ cs) ≡ remove (b ∷ cs) place
    alone [] none found = one place (position-Some (begins_at page at) (b ∷ []) place b found)
      where
        one : (i : ℕ) → (i < 1) × (begins_at page at (get_or (b ∷ []) i b) ≡ true) × ((k : ℕ) → k < i → begins_at page at (get_or (b ∷ []) k b) ≡ false) → others page at (b ∷ []) ≡ remove (b ∷ []) i
        one zero p = rw (p.1) refl
        one (suc i) p = absurd (let l = p.0 in omega arith)
    alone (c ∷ cs) none found = absurd (cc)

rest_of : (page : BlockPage) (at place : ℕ) (blocks : List Block) → AreBlocks blocks → position (begins_at page at) blocks ≡ Some place → 0 < length (remove blocks place)
    → AreBlocks (remove blocks place) × (pages_of (remove blocks place) ≡ pages_of blocks)
rest_of page at place [] all e some = absurd all
rest_of page at place (b ∷ bs) (inr shared) e some =
    let same = others_are page at place (b ∷ bs) (inr shared) e in
    let kept : AreShared (remove (b ∷ bs) place) = subst AreShared same (record { shared = keep_shared (λ c. not (begins_at page at c)) (b ∷ bs) shared.shared; order = keep_order (λ c. not (begins_at page at c)) 0 (b ∷ bs) shared.order }) in
    (some_blocks (remove (b ∷ bs) place) some kept, shared_pages (remove (b ∷ bs) place) kept ∙ sym (shared_pages (b ∷ bs) shared))
rest_of page at place (b ∷ bs) (inl large) e some = absurd (
    let inside = (position-Some (begins_at page at) (b ∷ bs) place b e).0 in
    let one : length bs ≡ 0 = ap length large.alone in
    let gone = length-remove (b ∷ bs) place inside in omega (arith, gone, one, inside))

-- a page with a block less
abbrev pub less : BlockPage → ℕ → BlockPage
less page place = record page { blocks = remove page.blocks place }

without_is : (page : BlockPage) (at place : ℕ) → IsPage page → position (begins_at page at) page.blocks ≡ Some place → without page at ≡ less page place
without_is page at place is e = ap (λ bs. record page { blocks = bs }) (others_are page at place page.blocks is.blocks e)

module _ (pool : List BlockPage) (i at place : ℕ) (d : BlockPage) (e : Block) (inside : i < length pool) (all : IsPool pool)
    (found : position (begins_at (get_or pool i d) at) (get_or pool i d).blocks ≡ Some place)
    (before : behind (take i pool) (take_first (drop i pool) at) ≡ take_first pool at) where
  is : IsPage (get_or pool i d)
  is = page_of pool i d all inside

  step : take_first pool at ≡ behind (take i pool) (Some (left_of (get_or pool i d) (without (get_or pool i d) at) (drop (i + 1) pool) (get_or (get_or pool i d).blocks place e).size (without (get_or pool i d) at).blocks))
  unfolding take_first
  step =
      sym before ∙ ap (λ o. behind (take i pool) o)
      (at_drop_more (λ ps. take_first ps at) pool i d inside
      ∙ ap (λ o. take_on (get_or pool i d) (drop (i + 1) pool) at o (take_first (drop (i + 1) pool) at)) (find_some (begins_at (get_or pool i d) at) (get_or pool i d).blocks place e found))

  kept_by : (bs : List Block) → bs ≡ (without (get_or pool i d) at).blocks → 0 < length bs → (pages : List BlockPage) (size : ℕ)
      → left_of (get_or pool i d) (without (get_or pool i d) at) pages size bs ≡ record { size = size; pages = without (get_or pool i d) at ∷ pages; freed = None }
  kept_by [] same some pages size = absurd (omega arith)
  kept_by (b ∷ bs) same some pages size = refl

  gone_by : (bs : List Block) → length bs ≡ 0 → (pages : List BlockPage) (size : ℕ)
      → left_of (get_or pool i d) (without (get_or pool i d) at) pages size bs ≡ record { size = size; pages = pages; freed = Some (span_of (get_or pool i d)) }
  gone_by [] none pages size = refl
  gone_by (b ∷ bs) none pages size = absurd (omega arith)

  same : without (get_or pool i d) at ≡ less (get_or pool i d) place
  same = without_is (get_or pool i d) at place is found

  -- other blocks stay on the page
  pub page_kept : 0 < length (remove (get_or pool i d).blocks place)
      → take_first pool at ≡ Some (record { size = (get_or (get_or pool i d).blocks place e).size; pages = slice_set pool i (less (get_or pool i d) place); freed = None })
  page_kept some =
      let next : i + 1 ≡ suc i = omega arith in
      let some' : 0 < length (without (get_or pool i d) at).blocks = subst (λ (q : BlockPage). 0 < length q.blocks) (sym same) some in
      step ∙ ap (λ t. behind (take i pool) (Some t)) (kept_by (without (get_or pool i d) at).blocks refl some' (drop (i + 1) pool) (get_or (get_or pool i d).blocks place e).size)
      ∙ ap (λ q. Some (record { size = (get_or (get_or pool i d).blocks place e).size; pages = take i pool ++ q ∷ drop (i + 1) pool; freed = None })) same
      ∙ ap (λ n. Some (record { size = (get_or (get_or pool i d).blocks place e).size; pages = take i pool ++ less (get_or pool i d) place ∷ drop n pool; freed = None })) next
      ∙ ap (λ ps. Some (record { size = (get_or (get_or pool i d).blocks place e).size; pages = ps; freed = None })) (sym (set_split pool i (less (get_or pool i d) place) inside))

  -- the page is given back
  pub page_gone : length (remove (get_or pool i d).blocks place) ≡ 0
      → take_first pool at ≡ Some (record { size = (get_or (get_or pool i d).blocks place e).size; pages = remove pool i; freed = Some (span_of (get_or pool i d)) })
  page_gone none =
      let next : i + 1 ≡ suc i = omega arith in
      let none' : length (without (get_or pool i d) at).blocks ≡ 0 = ap (λ (q : BlockPage). length q.blocks) same ∙ none in
      step ∙ ap (λ t. behind (take i pool) (Some t)) (gone_by (without (get_or pool i d) at).blocks none' (drop (i + 1) pool) (get_or (get_or pool i d).blocks place e).size)
      ∙ ap (λ n. Some (record { size = (get_or (get_or pool i d).blocks place e).size; pages = take i pool ++ drop n pool; freed = Some (span_of (get_or pool i d)) })) next

  less_place : 0 < length (remove (get_or pool i d).blocks place) → SamePlace (get_or pool i d) (less (get_or pool i d) place)
  less_place some = record { start = refl; pages = (rest_of (get_or pool i d) at place (get_or pool i d).blocks is.blocks found some).1 }

  less_page : 0 < length (remove (get_or pool i d).blocks place) → IsPage (less (get_or pool i d) place)
  less_page some =
      let rest = rest_of (get_or pool i d) at place (get_or pool i d).blocks is.blocks found some in
      record { blocks = rest.0; on_page = is.on_page; end = (let end = is.end in let n = rest.1 in omega (arith, end, n)) }

  pub kept_pool : 0 < length (remove (get_or pool i d).blocks place) → IsPool (slice_set pool i (less (get_or pool i d) place))
  kept_pool some = pool_set pool i (less (get_or pool i d) place) d inside (less_place some) (less_page some) all

  pub kept_together : (m : PageList) → 0 < length (remove (get_or pool i d).blocks place) → Together pool m → Together (slice_set pool i (less (get_or pool i d) place)) m
  kept_together m some together = together_set pool m i (less (get_or pool i d) place) d inside (less_place some) together
