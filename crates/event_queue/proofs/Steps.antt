-- What the loops go through, one element at a time.
use Rattle.std.proofs.Common.{◌≡◌, ℕ, suc, ◌+◌, ◌-◌, ◌<◌, ◌≤◌, ◌^◌, min, max, List, ◌++◌, map, length, take, drop, set, get_or, refl, sym, ap, ◌∙◌, arith, Bool, true, false, append_assoc, append-nil}
use Rattle.std.specs.Prelude.{nat_le, Option, Some, None, if◌then◌else◌}
use Rattle.std.proofs.lemmas.List.{at_drop_more, at_drop_all, get_or_default}
use Rattle.std.proofs.lemmas.List.Edits.{map_over_more}
use Rattle.std.proofs.lemmas.Bool.{le-leb, lt-leb, leb-false, cond-true, cond-false}
use Rattle.event_queue.specs.declared.event.Event.{Event}
use Rattle.event_queue.specs.declared.event.Entry.{Entry}
use Rattle.event_queue.specs.declared.event.Notify.{Notify}
use Rattle.event_queue.specs.Queue.{greatest, falling, level_calls}
use Rattle.event_queue.specs.Timers.{lesser, due_of, least_due, reached, rounded, first_moment}

pub lesser_of : (a b c : Option ℕ) → lesser (lesser a b) c ≡ lesser a (lesser b c)
lesser_of None b c = refl
lesser_of (Some a) None c = refl
lesser_of (Some a) (Some b) None = refl
lesser_of (Some a) (Some b) (Some c) = ap Some (omega arith)

-- ---- the greatest level

pub greatest_more : (q : List Entry) (i top more : ℕ) (d : Entry) → i < length q → more ≡ max (get_or q i d).tpl top → max top (greatest (drop i q)) ≡ max more (greatest (drop (i + 1) q))
unfolding greatest
greatest_more q i top more d h e = ap (max top) (at_drop_more greatest q i d h) ∙ (let g = greatest (drop (i + 1) q) in omega (arith, e))

pub greatest_over : (q : List Entry) (i top : ℕ) → length q ≤ i → max top (greatest (drop i q)) ≡ top
unfolding greatest
greatest_over q i top h = ap (max top) (at_drop_all greatest q i h) ∙ omega arith

-- ---- the least due moment

pub due_more : (es : List Event) (i : ℕ) (least more : Option ℕ) (d : Event) → i < length es → more ≡ lesser least (due_of (get_or es i d).timer) → lesser least (least_due (drop i es)) ≡ lesser more (least_due (drop (i + 1) es))
unfolding least_due
due_more es i least more d h e =
    ap (lesser least) (at_drop_more least_due es i d h) ∙ sym (ap (λ (a : Option ℕ). lesser a (least_due (drop (i + 1) es))) e ∙ lesser_of least (due_of (get_or es i d).timer) (least_due (drop (i + 1) es)))

lesser_none : (a : Option ℕ) → lesser a None ≡ a
lesser_none None = refl
lesser_none (Some a) = refl

pub due_over : (es : List Event) (i : ℕ) (least : Option ℕ) → length es ≤ i → lesser least (least_due (drop i es)) ≡ least
unfolding least_due
due_over es i least h = ap (lesser least) (at_drop_all least_due es i h) ∙ lesser_none least

-- ---- the first tick moment

pub reached_min : (a b : ℕ) → a < 2 ^ 64 → reached (min a b) ≡ lesser (Some a) (reached b)
reached_min a b h = by (nat_le b (2 ^ 64 - 1)) refl
  where
    by : (c : Bool) → nat_le b (2 ^ 64 - 1) ≡ c → reached (min a b) ≡ lesser (Some a) (if c then Some b else None)
    by true e = cond-true _ _ _ (le-leb (min a b) (2 ^ 64 - 1) (omega arith))
    by false e =
        let l = leb-false b (2 ^ 64 - 1) e in
        cond-true _ _ _ (le-leb (min a b) (2 ^ 64 - 1) (omega arith)) ∙ ap Some (omega (arith, l))

pub tick_here : (ticks : List ℕ) (i low d : ℕ) (first : Option ℕ) → i < length ticks → get_or ticks i d < 2 ^ 64 → low ≤ get_or ticks i d
    → lesser first (reached (first_moment (drop i ticks) low)) ≡ lesser (lesser first (Some (get_or ticks i d))) (reached (first_moment (drop (i + 1) ticks) low))
unfolding first_moment
tick_here ticks i low d first h f l =
    ap (λ m. lesser first (reached m)) (at_drop_more (λ ts. first_moment ts low) ticks i d h ∙ cond-true _ _ _ (le-leb low (get_or ticks i d) l))
    ∙ (ap (lesser first) (reached_min (get_or ticks i d) (first_moment (drop (i + 1) ticks) low) f)
    ∙ sym (lesser_of first (Some (get_or ticks i d)) (reached (first_moment (drop (i + 1) ticks) low))))

pub tick_passed : (ticks : List ℕ) (i low d : ℕ) (first : Option ℕ) → i < length ticks → get_or ticks i d < low
    → lesser first (reached (first_moment (drop i ticks) low)) ≡ lesser first (reached (first_moment (drop (i + 1) ticks) low))
unfolding first_moment
tick_passed ticks i low d first h l =
    ap (λ m. lesser first (reached m)) (at_drop_more (λ ts. first_moment ts low) ticks i d h ∙ cond-false _ _ _ (lt-leb low (get_or ticks i d) l))

pub tick_over : (ticks : List ℕ) (i low : ℕ) (first : Option ℕ) → length ticks ≤ i → lesser first (reached (first_moment (drop i ticks) low)) ≡ lesser first (reached (rounded low))
unfolding first_moment
tick_over ticks i low first h = ap (λ m. lesser first (reached m)) (at_drop_all (λ ts. first_moment ts low) ticks i h)

-- ---- calls by falling level

pub falling_more : (calls more : List Notify) (es : List Event) (below : ℕ) → below < 31 → more ≡ calls ++ level_calls (30 - below) es → calls ++ falling (31 - below) es ≡ more ++ falling (31 - (below + 1)) es
unfolding falling
falling_more calls more es below h e =
    let next : 31 - below ≡ suc (30 - below) = omega arith in
    let rest : 31 - (below + 1) ≡ 30 - below = omega arith in
    rw (next, rest, e) (sym (append_assoc calls (level_calls (30 - below) es) (falling (30 - below) es)))

pub falling_over : (calls : List Notify) (es : List Event) (below : ℕ) → 31 ≤ below → calls ++ falling (31 - below) es ≡ calls
unfolding falling
falling_over calls es below h = let over : 31 - below ≡ 0 = omega arith in rw over (append-nil calls)

-- ---- each event changed

pub mapped_more : (f : Event → Event) (xs ys : List Event) (i : ℕ) (d y : Event) → i < length xs → length ys ≡ length xs → ys ≡ map f (take i xs) ++ drop i xs → y ≡ f (get_or ys i d)
    → set ys i y ≡ map f (take (i + 1) xs) ++ drop (i + 1) xs
mapped_more f xs ys i d y h l m e =
    rw e (map_over_more f xs ys i (get_or ys i d) h m (get_or_default ys i d (get_or ys i d) (omega (arith, l, h))))
