-- Touched marks.
use Rattle.std.proofs.Common.{◌≡◌, ◌≢◌, ℕ, ◌+◌, ◌<◌, Bool, true, false, List, length, refl, sym, ap, arith, slice_set, replicate, [], ◌∷◌, zero, suc}
use Rattle.std.specs.Prelude.{slice_get}
use Rattle.std.proofs.lemmas.Grind.{common_steps}
use Rattle.uh_base.specs.Limits.{frame_limit}
use Rattle.guest_memory.specs.Lists.{count_true}
use Rattle.guest_memory.specs.Pages.{Pages, Whole, is_touched, or_false}
use Rattle.guest_memory.specs.Changes.{touch, lacks}

pub count_none : (n : ℕ) → count_true (replicate n false) ≡ 0
unfolding count_true
count_none zero = refl
count_none (suc n) = count_none n

pub count_set : (marks : List Bool) (i : ℕ) → i < length marks → or_false (slice_get marks i) ≡ false
    → count_true (slice_set marks i true) ≡ count_true marks + 1
unfolding count_true
count_set [] i h e = absurd (omega arith)
count_set (mark ∷ marks) zero h e = rw e (omega arith)
count_set (true ∷ marks) (suc i) h e = omega (arith, count_set marks i (omega arith) e)
count_set (false ∷ marks) (suc i) h e = count_set marks i (omega arith) e

pub set_again : (marks : List Bool) (i : ℕ) → or_false (slice_get marks i) ≡ true → slice_set marks i true ≡ marks
set_again [] i e = refl
set_again (mark ∷ marks) zero e = ap (λ m. m ∷ marks) (sym e)
set_again (mark ∷ marks) (suc i) e = ap (λ ms. mark ∷ ms) (set_again marks i e)

pub set_twice : (marks : List Bool) (i : ℕ) → slice_set (slice_set marks i true) i true ≡ slice_set marks i true
set_twice [] i = refl
set_twice (mark ∷ marks) zero = refl
set_twice (mark ∷ marks) (suc i) = ap (λ ms. mark ∷ ms) (set_twice marks i)

pub touched_already : (m : Pages) (page : ℕ) → is_touched m page ≡ true → (lacks m page ≡ false) × (m ≡ touch m page)
touched_already m page e = (rw e refl, ap (λ marks. record m { touched = marks }) (sym (set_again m.touched page e)))

pub lacks_at : (m : Pages) (page count : ℕ) → is_touched m page ≡ false → count ≡ count_true m.touched → count ≡ frame_limit → lacks m page ≡ true
lacks_at m page count e c f = let g : count_true m.touched ≡ frame_limit = cc in rw (e, g) refl

pub whole_touch : (m now : Pages) (page count : ℕ) → m ≡ now → Whole m → page < now.pages → is_touched now page ≡ false → count ≡ count_true m.touched → count ≢ frame_limit
    → Whole (touch m page) × (count + 1 ≡ count_true (slice_set m.touched page true))
whole_touch m now page count same whole h e c n =
    let p : page < m.pages = rw same h in
    let t : is_touched m page ≡ false = rw same e in
    let l = whole.touched_long in
    let few = whole.touched_few in
    let more : count_true (slice_set m.touched page true) ≡ count_true m.touched + 1 = count_set m.touched page (omega arith) t in
    let long : length (slice_set m.touched page true) ≡ length m.touched = grind (arith, common_steps) in (
      record {
        base_low = whole.base_low;
        base_even = whole.base_even;
        pages_low = whole.pages_low;
        pages_high = whole.pages_high;
        end = whole.end;
        bytes_long = whole.bytes_long;
        rights_long = whole.rights_long;
        touched_long = omega arith;
        touched_few = omega (arith, n);
      },
      omega arith,
    )
