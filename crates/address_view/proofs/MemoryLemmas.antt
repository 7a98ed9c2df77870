-- Marks and bytes of memory, as stores through a view change them.
use Rattle.std.proofs.Common.{◌≡◌, ℕ, ◌+◌, ◌<◌, Bool, true, false, List, length, refl, sym, ap, arith, cond, [], ◌∷◌, zero, suc, not}
use Rattle.std.specs.Prelude.{◌==◌, ◌&&◌, nat_lt, slice_get, slice_set}
use Rattle.std.proofs.lemmas.Bool.Decides.{nat_tests}
use Rattle.uh_base.specs.Limits.{frame_limit}
use Rattle.guest_memory.specs.Lists.{count_true}
use Rattle.guest_memory.specs.Pages.{Pages, Whole, holds, page_of, bytes_of, rights_at, is_touched, or_false}
use Rattle.guest_memory.specs.Changes.{lacks, put_to}

pub count_set : (marks : List Bool) (i : ℕ) → i < length marks → or_false (slice_get marks i) ≡ false
    → count_true (slice_set marks i true) ≡ count_true marks + 1
unfolding count_true
count_set [] i h e = absurd (omega arith)
count_set (mark ∷ marks) zero h e = rw e (omega arith)
count_set (true ∷ marks) (suc i) h e = omega (arith, count_set marks i (omega arith) e)
count_set (false ∷ marks) (suc i) h e = count_set marks i (omega arith) e

pub set_again : (marks : List Bool) (i : ℕ) → or_false (slice_get marks i) ≡ true → slice_set marks i true ≡ marks
set_again [] i e = refl
set_again (mark ∷ marks) zero e = ap (λ m. m ∷ marks) (sym e)
set_again (mark ∷ marks) (suc i) e = ap (λ ms. mark ∷ ms) (set_again marks i e)

pub set_twice : (marks : List Bool) (i : ℕ) → slice_set (slice_set marks i true) i true ≡ slice_set marks i true
set_twice [] i = refl
set_twice (mark ∷ marks) zero = refl
set_twice (mark ∷ marks) (suc i) = ap (λ ms. mark ∷ ms) (set_twice marks i)

count_by_mark : (marks : List Bool) (i : ℕ) → i < length marks → (b : Bool) → or_false (slice_get marks i) ≡ b → count_true (slice_set marks i true) ≡ cond b (count_true marks) (count_true marks + 1)
count_by_mark marks i h true e = ap count_true (set_again marks i e)
count_by_mark marks i h false e = count_set marks i h e

too_many_by : (m : Pages) (page : ℕ) → Whole m → page < m.pages → (b : Bool) → is_touched m page ≡ b → nat_lt frame_limit (count_true (slice_set m.touched page true)) ≡ (not b && count_true m.touched == frame_limit)
too_many_by m page whole h true e =
    let few = whole.touched_few in let c = count_by_mark m.touched page (omega (arith, whole.touched_long)) true e in grind (arith, nat_tests)
too_many_by m page whole h false e =
    let few = whole.touched_few in let c = count_by_mark m.touched page (omega (arith, whole.touched_long)) false e in rw c (grind (arith, nat_tests))

-- a page is lacking exactly where its touch is one too many
pub too_many : (m : Pages) (page : ℕ) → Whole m → page < m.pages → nat_lt frame_limit (count_true (slice_set m.touched page true)) ≡ lacks m page
too_many m page whole h = too_many_by m page whole h (is_touched m page) refl

-- marks change no byte and no right
pub same_bytes : (old new : Pages) → new ≡ record old { touched = new.touched } → bytes_of new ≡ bytes_of old
unfolding bytes_of
same_bytes old new e = rw e refl

pub same_rights : (old new : Pages) → new ≡ record old { touched = new.touched } → rights_at new ≡ rights_at old
unfolding rights_at
same_rights old new e = rw e refl

pub page_held : (m : Pages) (a : ℕ) → holds m a ≡ true → page_of m a < m.pages
page_held m a h = grind (arith, nat_tests)

-- a put sets no rights
pub rights_put : (old new : Pages) (at byte : ℕ) → new ≡ put_to old at byte → rights_at new ≡ rights_at old
unfolding rights_at
rights_put old new at byte e = rw e refl
