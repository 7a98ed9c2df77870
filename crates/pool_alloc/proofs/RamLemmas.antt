-- Blocks that lie in RAM.
use Rattle.std.proofs.Common.{◌≡◌, ℕ, ◌+◌, ◌-◌, ◌*◌, ◌/◌, ◌%◌, ◌<◌, ◌≤◌, List, length, take, drop, get_or, ap, ◌∙◌, arith, true, subst}
use Rattle.std.specs.Prelude.{◌&&◌, nat_le}
use Rattle.std.specs.List.{list_all}
use Rattle.std.proofs.lemmas.Bool.Decides.{nat_tests}
use Rattle.page_alloc.specs.declared.page.Owner.TheVariants.{Pool}
use Rattle.page_alloc.specs.Pages.{PageList, Whole, all_from}
use Rattle.page_alloc.specs.Calls.{owns, is_same_owner}
use Rattle.pool_alloc.specs.Pool.{BlockPage, CanPut, IsPool, Together}
use Rattle.pool_alloc.specs.Calls.{BlockInRam}
use Rattle.pool_alloc.proofs.GapLemmas.{and_true, room_tells}
use Rattle.pool_alloc.proofs.BlockLemmas.{shared_pages}
use Rattle.pool_alloc.proofs.PoolLemmas.{page_of, read}
use Rattle.pool_alloc.proofs.FreedLemmas.{own_there}

owned_in : (m : PageList) (at n : ℕ) → owns m Pool at n ≡ true → (m.base ≤ at) × ((at - m.base) / 4096 + n ≤ length m.pages)
unfolding owns all_from
owned_in m at n h =
    let p = and_true (nat_le m.base at) (nat_le ((at - m.base) / 4096 + n) (length m.pages) && list_all (λ page. is_same_owner page.owner Pool) (take n (drop ((at - m.base) / 4096) m.pages))) h in
    let q = and_true (nat_le ((at - m.base) / 4096 + n) (length m.pages)) (list_all (λ page. is_same_owner page.owner Pool) (take n (drop ((at - m.base) / 4096) m.pages))) p.1 in
    let low : nat_le m.base at ≡ true = p.0 in
    let high : nat_le ((at - m.base) / 4096 + n) (length m.pages) ≡ true = q.0 in
    (grind (arith, nat_tests), grind (arith, nat_tests))

block_in : (pool : List BlockPage) (m : PageList) (i offset size at : ℕ) (d : BlockPage) → Whole m → i < length pool → IsPool pool → Together pool m → CanPut (get_or pool i d).blocks offset size → at ≡ (get_or pool i d).start + offset
    → BlockInRam at size m
block_in pool m i offset size at d whole h all together can e =
    let one = shared_pages (get_or pool i d).blocks can.shared in
    let o = owned_in m (get_or pool i d).start 1 (subst (λ n. owns m Pool (get_or pool i d).start n ≡ true) one (own_there pool m i d h together)) in
    let low = o.0 in
    let high = o.1 in
    let ends = (room_tells (get_or pool i d).blocks size offset can.room).ends in
    let even = whole.ram.on_page in
    let on_page = (page_of pool i d all h).on_page in
    (omega (arith, e, low), omega (arith, e, low, high, ends, even, on_page))

pub put_in : (s pool : List BlockPage) (m : PageList) (i offset size start at : ℕ) (x : BlockPage) → s ≡ pool → i < length pool → x ≡ get_or s i x → IsPool s → ((d : BlockPage) → CanPut (get_or pool i d).blocks offset size)
    → start ≡ x.start → at ≡ start + offset → Whole m → Together pool m → BlockInRam at size m
put_in s pool m i offset size start at x e h is all can f g whole together =
    let l = ap length e in
    block_in pool m i offset size at x whole h (subst IsPool e all) together (can x) (g ∙ ap (λ n. n + offset) (f ∙ ap (λ (p : BlockPage). p.start) (read s pool i x x e (omega (arith, l)) is)))
