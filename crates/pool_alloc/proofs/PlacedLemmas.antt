-- A block in a gap.
use Rattle.std.proofs.Common.{◌≡◌, ℕ, ◌+◌, ◌≤◌, List, [], get_or, refl, sym, ap, ◌∙◌, arith, true, false}
use Rattle.std.specs.Prelude.{Some, None, Ok, slice_set}
use Rattle.std.proofs.lemmas.Bool.Decides.{nat_tests}
use Rattle.page_alloc.specs.Pages.{PageList}
use Rattle.page_alloc.specs.Calls.{may_be_given}
use Rattle.pool_alloc.specs.Blocks.{rounded, is_large}
use Rattle.pool_alloc.specs.Pool.{BlockPage, put_first, with_block_on}
use Rattle.pool_alloc.specs.Calls.{pool_allocation, on_page, gap_for, pages_allocated}
use Rattle.pool_alloc.proofs.NewPageLemmas.{rounded_small}

gap_small : (pool : List BlockPage) (t size n : ℕ) → size ≤ 2048 → n ≡ rounded size → gap_for pool t (rounded size) ≡ put_first pool t n
gap_small pool t size n h e =
    let fits : rounded size ≤ 2048 = rounded_small size h in
    let small : is_large (rounded size) ≡ false = grind (arith, nat_tests) in
    rw small (ap (λ k. put_first pool t k) (sym e))

blank : BlockPage
blank = record { start = 0; memory_type = 0; blocks = [] }

pub placed_gives : (pool new : List BlockPage) (m : PageList) (t size n index offset at : ℕ) → may_be_given t ≡ true → size ≤ 2048 → n ≡ rounded size
    → ((d : BlockPage) → put_first pool t n ≡ Some (record { at = (get_or pool index d).start + offset; pages = slice_set pool index (with_block_on (get_or pool index d) offset n) }))
    → ((d : BlockPage) → at ≡ (get_or pool index d).start + offset) → ((d : BlockPage) → new ≡ slice_set pool index (with_block_on (get_or pool index d) offset n))
    → pool_allocation pool m t size ≡ Ok (record { answer = at; pool = new; pages = m })
unfolding pool_allocation
placed_gives pool new m t size n index offset at known small is_rounded placed there behind =
    let gap : gap_for pool t (rounded size) ≡ Some (record { at = at; pages = new })
    = gap_small pool t size n small is_rounded ∙ placed blank ∙ ap (λ a. Some (record { at = a; pages = slice_set pool index (with_block_on (get_or pool index blank) offset n) })) (sym (there blank)) ∙ ap (λ ps. Some (record { at = at; pages = ps })) (sym (behind blank)) in
    rw known (ap (λ o. on_page pool m t (rounded size) o) gap)

pub no_pages : (pool : List BlockPage) (m : PageList) (t size n index offset : ℕ) → may_be_given t ≡ true → size ≤ 2048 → n ≡ rounded size
    → ((d : BlockPage) → put_first pool t n ≡ Some (record { at = (get_or pool index d).start + offset; pages = slice_set pool index (with_block_on (get_or pool index d) offset n) }))
    → pages_allocated pool m t size ≡ None
unfolding pages_allocated
no_pages pool m t size n index offset known small is_rounded placed = rw known (rw (gap_small pool t size n small is_rounded ∙ placed blank) refl)
