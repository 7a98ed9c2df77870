-- Pages that are given to images and taken back.
use Rattle.std.proofs.Common.{◌≡◌, ℕ, List, refl, sym, subst, ap, ◌∙◌}
use Rattle.std.specs.Prelude.{Result}
use Rattle.page_alloc.specs.declared.page.Owner.TheVariants.{Image}
use Rattle.page_alloc.specs.declared.page.PageRefusal.{PageRefusal}
use Rattle.page_alloc.specs.Pages.{PageList, Whole}
use Rattle.page_alloc.specs.Calls.{allocation, after_allocation, freeing, after_freeing}
use Rattle.page_alloc.specs.Laws.{Allocate, Release}
use Rattle.pool_alloc.specs.Pool.{BlockPage, IsPool, Together}
use Rattle.pool_alloc.specs.Laws.{PoolStaysTogether}

-- pages that an image is given, or gives back, are none of the pool's
pub given_together : PoolStaysTogether → (r : Result ℕ PageRefusal) (m n : PageList) (kind memory_type count at : ℕ) → r ≡ allocation m kind memory_type count at → n ≡ after_allocation r m Image memory_type count
    → Whole m → (pool : List BlockPage) → IsPool pool → Together pool m → Together pool n
given_together law r m n kind memory_type count at e f whole pool is t =
    subst (λ (k : PageList). Together pool k) (sym (f ∙ ap (λ (k : Result ℕ PageRefusal). after_allocation k m Image memory_type count) e)) (law pool m (Allocate Image kind memory_type count at) whole is refl t)

pub freed_together : PoolStaysTogether → (r : Result (Unit {0}) PageRefusal) (m n : PageList) (at count : ℕ) → r ≡ freeing m Image at count → n ≡ after_freeing r m at count
    → Whole m → (pool : List BlockPage) → IsPool pool → Together pool m → Together pool n
freed_together law r m n at count e f whole pool is t =
    subst (λ (k : PageList). Together pool k) (sym (f ∙ ap (λ (k : Result (Unit {0}) PageRefusal). after_freeing k m at count) e)) (law pool m (Release Image at count) whole is refl t)
