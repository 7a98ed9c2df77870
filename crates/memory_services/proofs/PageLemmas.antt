-- Pages that are given and taken back.
use Rattle.std.proofs.Common.{◌≡◌, ◌<◌, ℕ, zero, suc, Bool, true, false, List, refl, sym, subst, ap, ◌∙◌, arith}
use Rattle.std.specs.Prelude.{◌&&◌, ◌==◌, ◌%◌, Result, Ok, Err, IfOk, if◌then◌else◌}
use Rattle.page_alloc.specs.declared.page.Owner.{Owner}
use Rattle.page_alloc.specs.declared.page.Owner.TheVariants.{Pages}
use Rattle.page_alloc.specs.declared.page.PageRefusal.{PageRefusal}
use Rattle.page_alloc.specs.declared.page.PageRefusal.TheVariants.{Invalid}
use Rattle.page_alloc.specs.Pages.{PageList, Whole}
use Rattle.page_alloc.specs.Calls.{allocation, after_allocation, freeing, after_freeing}
use Rattle.page_alloc.specs.Laws.{Allocate, Release}
use Rattle.pool_alloc.specs.Pool.{BlockPage, IsPool, Together}
use Rattle.pool_alloc.specs.Laws.{PoolStaysTogether}

neither : (a : Bool) (x y : Result (Unit {0}) PageRefusal) → (if a && false then x else y) ≡ y
neither true x y = refl
neither false x y = refl

-- at least one page was taken back
pub some_freed : (r : Result (Unit {0}) PageRefusal) (m : PageList) (owner : Owner) (at count : ℕ) → r ≡ freeing m owner at count → IfOk r (λ done. 0 < count)
unfolding freeing
some_freed (Ok done) m owner at zero e = let f : Ok done ≡ Err Invalid = e ∙ neither (at % 4096 == 0) _ (Err Invalid) in absurd (cc)
some_freed (Ok done) m owner at (suc n) e = omega arith
some_freed (Err refusal) m owner at count e = tt

-- pages that the guest is given, or gives back, are none of the pool's
pub given_together : PoolStaysTogether → (r : Result ℕ PageRefusal) (m n : PageList) (owner : Owner) (kind memory_type count at : ℕ) → r ≡ allocation m kind memory_type count at → n ≡ after_allocation r m owner memory_type count
    → Whole m → (pool : List BlockPage) → IsPool pool → Together pool m → Together pool n
given_together law r m n owner kind memory_type count at e f whole pool is t =
    subst (λ (k : PageList). Together pool k) (sym (f ∙ ap (λ (k : Result ℕ PageRefusal). after_allocation k m owner memory_type count) e)) (law pool m (Allocate owner kind memory_type count at) whole is refl t)

pub freed_together : PoolStaysTogether → (r : Result (Unit {0}) PageRefusal) (m n : PageList) (at count : ℕ) → r ≡ freeing m Pages at count → n ≡ after_freeing r m at count
    → Whole m → (pool : List BlockPage) → IsPool pool → Together pool m → Together pool n
freed_together law r m n at count e f whole pool is t =
    subst (λ (k : PageList). Together pool k) (sym (f ∙ ap (λ (k : Result (Unit {0}) PageRefusal). after_freeing k m at count) e)) (law pool m (Release Pages at count) whole is refl t)
