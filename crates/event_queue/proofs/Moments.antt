-- Tick moments.
use Rattle.std.proofs.Common.{◌≡◌, ℕ, suc, ◌+◌, ◌-◌, ◌%◌, ◌^◌, ◌<◌, ◌≤◌, min, max, List, [], ◌∷◌, length, take, drop, get_or, refl, sym, ap, ◌∙◌, arith, Bool, true, false}
use Rattle.std.specs.Prelude.{nat_le, take_while, Some, None, if◌then◌else◌}
use Rattle.std.specs.List.{find, prefix_len, IsAllAdjacentAnswer}
use Rattle.std.specs.Ordering.{is_some_and, is_le, nat_cmp}
use Rattle.std.specs.List.Sorted.{IsNonDecreasing}
use Rattle.std.proofs.lemmas.Bool.{lt-leb, leb-true, cond-false}
use Rattle.std.proofs.lemmas.List.{take_all, length-take, length-drop, drop-drop}
use Rattle.std.proofs.lemmas.List.Sorted.{non_decreasing_from_is_sorted}
use Rattle.std.proofs.lemmas.List.Folds.{length-prefix_len}
use Rattle.event_queue.specs.Queue.{EventList}
use Rattle.event_queue.specs.Timers.{reached, rounded, first_moment, lesser, has_moment, moment_ahead}
use Rattle.event_queue.proofs.Steps.{reached_min}

rounded_from : (low : ℕ) → low ≤ rounded low
rounded_from low = omega arith

pub rounded_is : (low : ℕ) → rounded low % 10000 ≡ 0
rounded_is low = omega arith

pub rounded_least : (low n : ℕ) → low ≤ n → n % 10000 ≡ 0 → rounded low ≤ n
rounded_least low n l m = omega (arith, l, m)

pub first_from : (ticks : List ℕ) (low : ℕ) → low ≤ first_moment ticks low
unfolding first_moment
first_from [] low = rounded_from low
first_from (t ∷ ts) low = by (nat_le low t) refl (first_from ts low)
  where
    by : (b : Bool) → nat_le low t ≡ b → low ≤ first_moment ts low → low ≤ (if b then min t (first_moment ts low) else first_moment ts low)
    by true e h = let l = leb-true low t e in omega (arith, l, h)
    by false e h = h

-- a clock that is past its end reaches none
pub none_reached : (moment : ℕ) → 2 ^ 64 - 1 < moment → reached moment ≡ None
none_reached moment h = cond-false _ _ _ (lt-leb moment (2 ^ 64 - 1) h)

pub none_from : (ticks : List ℕ) (low : ℕ) → 2 ^ 64 ≤ low → None ≡ reached (first_moment ticks low)
none_from ticks low h = sym (none_reached (first_moment ticks low) (let f = first_from ticks low in omega (arith, f, h)))

pub none_above : (ticks : List ℕ) (last : ℕ) → (last + 1 < 2 ^ 64 → ⊥) → None ≡ reached (first_moment ticks (last + 1))
none_above ticks last h = none_from ticks (last + 1) (omega (arith, h))

pub none_beyond : (ticks : List ℕ) (last low : ℕ) → (last + 1 < 2 ^ 64 → ⊥) → None ≡ reached (first_moment ticks (max (last + 1) low))
none_beyond ticks last low h = none_from ticks (max (last + 1) low) (omega (arith, h))

-- ---- the listed moments that lie behind

unpassed : (ticks : List ℕ) (present low : ℕ) → present < low → first_moment (drop (prefix_len (λ moment. nat_le moment present) ticks) ticks) low ≡ first_moment ticks low
unfolding first_moment
unpassed [] present low h = refl
unpassed (t ∷ ts) present low h = by (nat_le t present) refl (unpassed ts present low h)
  where
    by : (b : Bool) → nat_le t present ≡ b → first_moment (drop (prefix_len (λ moment. nat_le moment present) ts) ts) low ≡ first_moment ts low
        → first_moment (drop (if b then 1 + prefix_len (λ moment. nat_le moment present) ts else 0) (t ∷ ts)) low ≡ (if nat_le low t then min t (first_moment ts low) else first_moment ts low)
    by true e k =
        let one : 1 + prefix_len (λ moment. nat_le moment present) ts ≡ suc (prefix_len (λ moment. nat_le moment present) ts) = omega arith in
        ap (λ n. first_moment (drop n (t ∷ ts)) low) one ∙ (k ∙ sym (cond-false _ _ _ (lt-leb low t (let l = leb-true t present e in omega (arith, l, h)))))
    by false e k = refl

-- what is left of a list
pub rest_is : (ticks part : List ℕ) (passed : ℕ) → part ≡ ticks → take (length part - passed) (drop passed part) ≡ drop passed ticks
rest_is ticks part passed e = take_all (length part - passed) (drop passed part) (let l = length-drop passed part in omega (arith, l)) ∙ ap (drop passed) e

-- as many as the code counts
abbrev pub passed_of : List ℕ → ℕ → ℕ
passed_of ticks present = length (take_while (λ moment. nat_le moment present) ticks)

pub moment_unpassed : (ticks : List ℕ) (present low : ℕ) → present < low → first_moment (drop (passed_of ticks present) ticks) low ≡ first_moment ticks low
moment_unpassed ticks present low h = ap (λ n. first_moment (drop n ticks) low) (length-prefix_len (λ moment. nat_le moment present) ticks) ∙ unpassed ticks present low h

pub passed_fits : (ticks : List ℕ) (present : ℕ) → passed_of ticks present ≤ length ticks
passed_fits ticks present = let t = length-take (prefix_len (λ moment. nat_le moment present) ticks) ticks in omega (arith, t)

-- the listed moments that lie behind a later moment
pub passed_more : (ticks left : List ℕ) (last present passed more : ℕ) → ((low : ℕ) → last < low → first_moment (drop passed ticks) low ≡ first_moment ticks low)
    → left ≡ drop passed ticks → more ≡ passed_of left present → last ≤ present
    → (low : ℕ) → present < low → first_moment (drop (passed + more) ticks) low ≡ first_moment ticks low
passed_more ticks left last present passed more before here count l low h =
    ap (λ ts. first_moment ts low) (sym (drop-drop more passed ticks))
    ∙ (ap (λ ts. first_moment (drop more ts) low) (sym here)
    ∙ (ap (λ n. first_moment (drop n left) low) count
    ∙ (moment_unpassed left present low h
    ∙ (ap (λ ts. first_moment ts low) here ∙ before low (omega arith)))))

pub passed_room : (ticks left : List ℕ) (present passed more : ℕ) → passed ≤ length ticks → left ≡ drop passed ticks → more ≡ passed_of left present → passed + more ≤ length ticks
passed_room ticks left present passed more r here count =
    let k = passed_fits left present in
    let l = ap length here ∙ length-drop passed ticks in
    omega (arith, r, k, l, count)

-- a tick is later than the last one
pub tick_later : (s : EventList) (present : ℕ) → has_moment s present ≡ true → s.last_tick ≤ present
unfolding has_moment
tick_later s present h =
    let l = leb-true (moment_ahead s) present h in
    let f = first_from s.ticks (s.last_tick + 1) in
    omega (arith, l, f)

pub rises : (ticks : List ℕ) (r : Bool) → IsAllAdjacentAnswer (λ x y b. is_some_and is_le (Some (nat_cmp x y)) ≡ b) ticks r → r ≡ true → IsNonDecreasing ticks
rises ticks true h e = non_decreasing_from_is_sorted ticks true h
rises ticks false h e = absurd (cc)

-- ---- the first of listed moments that rise

-- each is at least a number
abbrev pub AllFrom : ℕ → List ℕ → Type 0
AllFrom n [] = Unit {0}
AllFrom n (t ∷ ts) = (n ≤ t) × AllFrom n ts

min_from : (t low : ℕ) (ts : List ℕ) → AllFrom t ts → min t (first_moment ts low) ≡ min t (rounded low)
unfolding first_moment
min_from t low [] h = refl
min_from t low (u ∷ us) h = by (nat_le low u) (min_from t low us h.1)
  where
    by : (b : Bool) → min t (first_moment us low) ≡ min t (rounded low) → min t (if b then min u (first_moment us low) else first_moment us low) ≡ min t (rounded low)
    by true k = let l = h.0 in omega (arith, k, l)
    by false k = k

all_from : (n : ℕ) (ts : List ℕ) → ((i : ℕ) → i < length ts → n ≤ get_or ts i 0) → AllFrom n ts
all_from n [] h = tt
all_from n (t ∷ ts) h = (h 0 (omega arith), all_from n ts (λ i l. h (suc i) (omega (arith, l))))

pub found_first : (ts : List ℕ) (low : ℕ) → IsNonDecreasing ts → ((i : ℕ) → get_or ts i 0 < 2 ^ 64)
    → lesser (find (λ moment. nat_le low moment) ts) (reached (rounded low)) ≡ reached (first_moment ts low)
unfolding first_moment
found_first [] low r f = refl
found_first (t ∷ ts) low r f = by (nat_le low t) (found_first ts low (λ i j d l m. r (suc i) (suc j) d (omega (arith, l)) (omega (arith, m))) (λ i. f (suc i)))
  where
    by : (b : Bool) → lesser (find (λ moment. nat_le low moment) ts) (reached (rounded low)) ≡ reached (first_moment ts low)
        → lesser (if b then Some t else find (λ moment. nat_le low moment) ts) (reached (rounded low)) ≡ reached (if b then min t (first_moment ts low) else first_moment ts low)
    by true k =
        sym (reached_min t (rounded low) (f 0))
        ∙ ap reached (sym (min_from t low ts (all_from t ts (λ i l. r 0 (suc i) 0 (omega arith) (omega (arith, l))))))
    by false k = k
