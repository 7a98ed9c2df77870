-- The pool behind a taking, as the code has it.
use Rattle.std.proofs.Common.{◌≡◌, ◌≢◌, ℕ, suc, ◌+◌, ◌<◌, List, ◌++◌, length, take, drop, get_or, sym, ap, ◌∙◌, arith, Bool, true, false, subst}
use Rattle.std.specs.Prelude.{Some, None, remove, position, slice_set, ◌==◌}
use Rattle.std.proofs.lemmas.Bool.Decides.{nat_tests}
use Rattle.std.proofs.lemmas.List.{take-set, drop-set-lt}
use Rattle.std.proofs.lemmas.List.Edits.{length-remove}
use Rattle.page_alloc.specs.Pages.{PageList, Whole}
use Rattle.page_alloc.specs.Laws.{OwnedAreFreed}
use Rattle.pool_alloc.specs.declared.block.Block.{Block}
use Rattle.pool_alloc.specs.declared.span.PageSpan.{PageSpan}
use Rattle.pool_alloc.specs.Pool.{BlockPage, behind, take_first, begins_at, span_of, IsPool, Together, CanFree}
use Rattle.pool_alloc.specs.Calls.{pages_freed, freed_by}
use Rattle.pool_alloc.proofs.PoolLemmas.{read}
use Rattle.pool_alloc.proofs.TakeLemmas.{place_inside}
use Rattle.pool_alloc.proofs.RestLemmas.{less, page_kept, page_gone, kept_pool, kept_together}
use Rattle.pool_alloc.proofs.FreedLemmas.{pool_less, can_free}

no_block : Block
no_block = record { offset = 0; size = 0 }

remove-set : {X : Type 0} (xs : List X) (i : ℕ) (y : X) → i < length xs → remove (slice_set xs i y) i ≡ remove xs i
remove-set xs i y h =
    let next : i < suc i = omega arith in
    ap (λ ys. ys ++ drop (suc i) (slice_set xs i y)) (take-set xs i y) ∙ ap (λ ys. take i xs ++ ys) (drop-set-lt (suc i) xs i y next)

module _ (s pool : List BlockPage) (i at place : ℕ) (x y : BlockPage) (e : s ≡ pool) (inside : i < length pool) (is : x ≡ get_or s i x) (all : IsPool s)
    (found : (d : BlockPage) → position (begins_at (get_or pool i d) at) (get_or pool i d).blocks ≡ Some place)
    (before : behind (take i pool) (take_first (drop i pool) at) ≡ take_first pool at) (same : y ≡ less x place) where
  inside' : i < length s
  inside' = let l = ap length e in omega (arith, l)

  here : get_or pool i x ≡ x
  here = sym (read s pool i x x e inside' is)

  whole : IsPool pool
  whole = subst IsPool e all

  -- other blocks stay
  pub kept : (size : ℕ) → 0 < length y.blocks → ((d : Block) → size ≡ (get_or x.blocks place d).size) → take_first pool at ≡ Some (record { size = size; pages = slice_set s i y; freed = None })
  kept size some sizes =
      let some' : 0 < length (remove x.blocks place) = subst (λ (q : BlockPage). 0 < length q.blocks) same some in
      subst (λ (q : BlockPage). 0 < length (remove q.blocks place) → take_first pool at ≡ Some (record { size = (get_or q.blocks place no_block).size; pages = slice_set pool i (less q place); freed = None })) here
      (page_kept pool i at place x no_block inside whole (found x) before) some'
      ∙ ap (λ n. Some (record { size = n; pages = slice_set pool i (less x place); freed = None })) (sym (sizes no_block))
      ∙ ap (λ q. Some (record { size = size; pages = slice_set pool i q; freed = None })) (sym same)
      ∙ ap (λ ps. Some (record { size = size; pages = slice_set ps i y; freed = None })) (sym e)

  pub kept_is_pool : 0 < length y.blocks → IsPool (slice_set s i y)
  kept_is_pool some =
      let some' : 0 < length (remove x.blocks place) = subst (λ (q : BlockPage). 0 < length q.blocks) same some in
      subst (λ ps. IsPool (slice_set ps i y)) (sym e) (subst (λ q. IsPool (slice_set pool i q)) (sym same)
      (subst (λ (q : BlockPage). 0 < length (remove q.blocks place) → IsPool (slice_set pool i (less q place))) here (kept_pool pool i at place x no_block inside whole (found x) before) some'))

  pub kept_is_together : (m : PageList) → 0 < length y.blocks → Together pool m → Together (slice_set s i y) m
  kept_is_together m some together =
      let some' : 0 < length (remove x.blocks place) = subst (λ (q : BlockPage). 0 < length q.blocks) same some in
      subst (λ ps. Together (slice_set ps i y) m) (sym e) (subst (λ q. Together (slice_set pool i q) m) (sym same)
      (subst (λ (q : BlockPage). 0 < length (remove q.blocks place) → Together pool m → Together (slice_set pool i (less q place)) m) here (kept_together pool i at place x no_block inside whole (found x) before m) some' together))

  -- the page goes
  pub gone : (zs : List BlockPage) (size : ℕ) (span : PageSpan) → length y.blocks ≡ 0 → ((d : Block) → size ≡ (get_or x.blocks place d).size) → zs ≡ remove (slice_set s i y) i → span ≡ span_of x
      → take_first pool at ≡ Some (record { size = size; pages = zs; freed = Some span })
  gone zs size span none sizes z f =
      let none' : length (remove x.blocks place) ≡ 0 = sym (ap (λ (q : BlockPage). length q.blocks) same) ∙ none in
      subst (λ (q : BlockPage). length (remove q.blocks place) ≡ 0 → take_first pool at ≡ Some (record { size = (get_or q.blocks place no_block).size; pages = remove pool i; freed = Some (span_of q) })) here
      (page_gone pool i at place x no_block inside whole (found x) before) none'
      ∙ ap (λ n. Some (record { size = n; pages = remove pool i; freed = Some (span_of x) })) (sym (sizes no_block))
      ∙ ap (λ ps. Some (record { size = size; pages = ps; freed = Some (span_of x) })) (sym (z ∙ remove-set s i y inside' ∙ ap (λ ps. remove ps i) e))
      ∙ ap (λ n. Some (record { size = size; pages = zs; freed = Some n })) (sym f)

  pub gone_is_pool : (zs : List BlockPage) → zs ≡ remove (slice_set s i y) i → IsPool zs
  gone_is_pool zs z = subst IsPool (sym (z ∙ remove-set s i y inside')) (pool_less s i all)

  pub gone_frees : OwnedAreFreed → (zs : List BlockPage) (m : PageList) (span : PageSpan) → zs ≡ remove (slice_set s i y) i → span ≡ span_of x → Whole m → Together pool m → CanFree (Some span) zs m
  gone_frees freed zs m span z f w together =
      let given : CanFree (Some (span_of x)) (remove pool i) m
      = subst (λ (q : BlockPage). CanFree (Some (span_of q)) (remove pool i) m) here (can_free freed pool m i x w inside whole together) in
      let given' : CanFree (Some (span_of x)) zs m = subst (λ ps. CanFree (Some (span_of x)) ps m) (sym (z ∙ remove-set s i y inside' ∙ ap (λ ps. remove ps i) e)) given in
      subst (λ n. CanFree (Some n) zs m) (sym f) given'

pub some_left : (n : ℕ) (b : Bool) → b ≡ (n == 0) → b ≡ false → 0 < n
some_left n b e h = let t : (n == 0) ≡ false = sym e ∙ h in let some : n ≢ 0 = grind (arith, nat_tests) in omega (arith, some)

pub none_left : (n : ℕ) (b : Bool) → b ≡ (n == 0) → b ≡ true → n ≡ 0
none_left n b e h = let t : (n == 0) ≡ true = sym e ∙ h in grind (arith, nat_tests)

-- the pages that are freed, before the taking
module _ (s pool : List BlockPage) (i at place : ℕ) (x : BlockPage) (e : s ≡ pool) (inside : i < length pool) (is : x ≡ get_or s i x) (all : IsPool s)
    (found : (d : BlockPage) → position (begins_at (get_or pool i d) at) (get_or pool i d).blocks ≡ Some place)
    (before : behind (take i pool) (take_first (drop i pool) at) ≡ take_first pool at) where
  same_page : get_or pool i x ≡ x
  same_page = sym (read s pool i x x e (let l = ap length e in omega (arith, l)) is)

  left : length (remove (get_or pool i x).blocks place) + 1 ≡ length x.blocks
  left = length-remove (get_or pool i x).blocks place (place_inside (begins_at (get_or pool i x) at) (get_or pool i x).blocks place no_block (found x)) ∙ ap (λ (q : BlockPage). length q.blocks) same_page

  pub last_freed : (span : PageSpan) (b : Bool) → b ≡ (length x.blocks == 1) → b ≡ true → span ≡ span_of x → Some span ≡ pages_freed pool at
  unfolding pages_freed
  last_freed span b t h f =
      let is_one : (length x.blocks == 1) ≡ true = sym t ∙ h in
      let one : length x.blocks ≡ 1 = grind (arith, nat_tests) in
      let l = left in
      let none : length (remove (get_or pool i x).blocks place) ≡ 0 = omega (arith, l, one) in
      ap Some (f ∙ ap span_of (sym same_page)) ∙ sym (ap freed_by (page_gone pool i at place x no_block inside (subst IsPool e all) (found x) before none))

  pub none_freed : (b : Bool) → b ≡ (length x.blocks == 1) → b ≡ false → None ≡ pages_freed pool at
  unfolding pages_freed
  none_freed b t h =
      let is_not : (length x.blocks == 1) ≡ false = sym t ∙ h in
      let more : length x.blocks ≢ 1 = grind (arith, nat_tests) in
      let l = left in
      let some : 0 < length (remove (get_or pool i x).blocks place) = omega (arith, l, more) in
      sym (ap freed_by (page_kept pool i at place x no_block inside (subst IsPool e all) (found x) before some))
