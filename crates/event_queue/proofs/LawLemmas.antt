-- The laws.
use Rattle.std.proofs.Common.{◌≡◌, ℕ, zero, suc, ◌+◌, ◌-◌, ◌^◌, ◌<◌, ◌≤◌, min, max, List, [], ◌∷◌, refl, sym, ap, ◌∙◌, subst, arith, Bool, true, false, inl, inr}
use Rattle.std.specs.Prelude.{◌==◌, nat_le, nat_lt, Option, Some, None, if◌then◌else◌, slice_get, is_some}
use Rattle.std.specs.List.{find}
use Rattle.std.proofs.lemmas.Bool.{le-leb, leb-true, leb-false, lt-ltb, ltb-true, ltb-false, cond-true, cases_Bool, eqb-true, eqb-false, true≢false}
use Rattle.event_queue.specs.declared.event.Event.{Event}
use Rattle.event_queue.specs.declared.event.Entry.{Entry}
use Rattle.event_queue.specs.Queue.{EventList, EachOnce, greatest, next_entry}
use Rattle.event_queue.specs.Timers.{IsMoment, reached, first_moment, moment_ahead, has_moment, due_of, is_due, is_up_to, lesser, least_due, moment_for, next_moment}
use Rattle.event_queue.specs.Laws.{QueuedOnce, IsNextOf, NextIsGreatest, FirstIsLeast, TicksAtMoments, IdleTicks, IsNextMoment, NextMomentIsDue}
use Rattle.event_queue.proofs.Numbers.{not_queued_here}
use Rattle.event_queue.proofs.Caches.{calm_tick}
use Rattle.event_queue.proofs.Moments.{first_from, rounded_is, rounded_least}

-- ---- an event stands in the queue at most once

once_place : (q : List Entry) (i j : ℕ) (a b : Entry) → EachOnce q → slice_get q i ≡ Some a → slice_get q j ≡ Some b → a.event ≡ b.event → i ≡ j
once_place [] i j a b o g h e = absurd (cc)
once_place (x ∷ q) zero zero a b o g h e = refl
once_place (x ∷ q) zero (suc j) a b o g h e =
    let same : x ≡ a = cc in
    absurd (eqb-false b.event x.event (not_queued_here x.event j q b o.0 h) (sym e ∙ ap (λ (y : Entry). y.event) (sym same)))
once_place (x ∷ q) (suc i) zero a b o g h e =
    let same : x ≡ b = cc in
    absurd (eqb-false a.event x.event (not_queued_here x.event i q a o.0 g) (e ∙ ap (λ (y : Entry). y.event) (sym same)))
once_place (x ∷ q) (suc i) (suc j) a b o g h e = ap suc (once_place q i j a b o.1 g h e)

pub queued_once : QueuedOnce
queued_once = λ s w i j a b g h e. once_place s.queue i j a b w.once g h e

-- ---- what is notified next

greatest_bounds : (q : List Entry) (i : ℕ) (x : Entry) → slice_get q i ≡ Some x → x.tpl ≤ greatest q
unfolding greatest
greatest_bounds [] i x g = absurd (cc)
greatest_bounds (y ∷ q) zero x g = let same : y ≡ x = cc in let t = ap (λ (z : Entry). z.tpl) same in omega (arith, t)
greatest_bounds (y ∷ q) (suc i) x g = let h = greatest_bounds q i x g in omega (arith, h)

greatest_reached : (q : List Entry) → 0 < greatest q → (i : ℕ) × (x : Entry) × (slice_get q i ≡ Some x) × (x.tpl ≡ greatest q)
unfolding greatest
greatest_reached [] h = absurd (omega arith)
greatest_reached (y ∷ q) h = by (nat_lt y.tpl (greatest q)) refl (greatest_reached q)
  where
    by : (b : Bool) → nat_lt y.tpl (greatest q) ≡ b → (0 < greatest q → (i : ℕ) × (x : Entry) × (slice_get q i ≡ Some x) × (x.tpl ≡ greatest q))
        → (i : ℕ) × (x : Entry) × (slice_get (y ∷ q) i ≡ Some x) × (x.tpl ≡ max y.tpl (greatest q))
    by true t f =
        let l = ltb-true y.tpl (greatest q) t in
        let k = f (omega (arith, l)) in
        let e = k.3 in
        (suc k.0, k.1, k.2, omega (arith, l, e))
    by false t f = let l = ltb-false y.tpl (greatest q) t in (zero, y, refl, omega (arith, l))

-- the first entry of a level
abbrev pub IsFirstAt : List Entry → ℕ → Option Entry → Type 0
IsFirstAt q n None = (i : ℕ) (x : Entry) → slice_get q i ≡ Some x → (x.tpl == n) ≡ false
IsFirstAt q n (Some x) = (i : ℕ) × (slice_get q i ≡ Some x) × ((x.tpl == n) ≡ true) × ((j : ℕ) (y : Entry) → j < i → slice_get q j ≡ Some y → (y.tpl == n) ≡ false)

first_at : (q : List Entry) (n : ℕ) → IsFirstAt q n (find (λ entry. entry.tpl == n) q)
first_at [] n = λ i x g. absurd (cc)
first_at (y ∷ q) n = by (y.tpl == n) refl (find (λ entry. entry.tpl == n) q) (first_at q n)
  where
    next : (o : Option Entry) → (y.tpl == n) ≡ false → IsFirstAt q n o → IsFirstAt (y ∷ q) n o
    next None t h = none
      where
        none : (i : ℕ) (x : Entry) → slice_get (y ∷ q) i ≡ Some x → (x.tpl == n) ≡ false
        none zero x g = let same : y ≡ x = cc in ap (λ (z : Entry). z.tpl == n) (sym same) ∙ t
        none (suc i) x g = h i x g
    next (Some x) t h = (suc h.0, h.1, h.2, before)
      where
        before : (j : ℕ) (z : Entry) → j < suc h.0 → slice_get (y ∷ q) j ≡ Some z → (z.tpl == n) ≡ false
        before zero z l g = let same : y ≡ z = cc in ap (λ (w : Entry). w.tpl == n) (sym same) ∙ t
        before (suc j) z l g = h.3 j z (omega arith) g

    by : (b : Bool) → (y.tpl == n) ≡ b → (o : Option Entry) → IsFirstAt q n o → IsFirstAt (y ∷ q) n (if b then Some y else o)
    by true t o h = (zero, refl, t, λ j z l g. absurd (omega arith))
    by false t o h = next o t h

chosen : (q : List Entry) (tpl : ℕ) → tpl < greatest q → (o : Option Entry) → IsFirstAt q (greatest q) o → IsNextOf q tpl o
chosen q tpl l None h =
    let k = greatest_reached q (omega arith) in
    absurd (eqb-false k.1.tpl (greatest q) (h k.0 k.1 k.2) k.3)
chosen q tpl l (Some x) h =
    let e = eqb-true x.tpl (greatest q) h.2 in
    record {
      above = omega (arith, l, e);
      greatest = λ i y g. (let b = greatest_bounds q i y g in omega (arith, b, e));
      earliest = (h.0, h.1, λ j y m g. (let b = greatest_bounds q j y g in let n = eqb-false y.tpl (greatest q) (h.3 j y m g) in let c = le_cases y.tpl (greatest q) b n in omega (arith, c, e)));
    }
  where
    le_cases : (a b : ℕ) → a ≤ b → (a ≡ b → ⊥) → a < b
    le_cases a b l n = omega (arith, l, n)

pub next_is_greatest : NextIsGreatest
unfolding next_entry
next_is_greatest = λ q tpl. by q tpl (nat_lt tpl (greatest q)) refl
  where
    by : (q : List Entry) (tpl : ℕ) (b : Bool) → nat_lt tpl (greatest q) ≡ b → IsNextOf q tpl (if b then find (λ entry. entry.tpl == greatest q) q else None)
    by q tpl true t = chosen q tpl (ltb-true tpl (greatest q) t) _ (first_at q (greatest q))
    by q tpl false t = λ i x g. (let b = greatest_bounds q i x g in let l = ltb-false tpl (greatest q) t in omega (arith, b, l))

-- whether anything is
has_next_of : (q : List Entry) (tpl : ℕ) (o : Option Entry) → IsNextOf q tpl o → nat_lt tpl (greatest q) ≡ is_some o
has_next_of q tpl None h = by (nat_lt tpl (greatest q)) refl
  where
    by : (b : Bool) → nat_lt tpl (greatest q) ≡ b → nat_lt tpl (greatest q) ≡ false
    by true t =
        let l = ltb-true tpl (greatest q) t in
        let k = greatest_reached q (omega (arith, l)) in
        let m = h k.0 k.1 k.2 in
        let e = k.3 in
        absurd (omega (arith, l, m, e))
    by false t = t
has_next_of q tpl (Some x) h =
    let a = h.above in
    let e = h.earliest in
    let b = greatest_bounds q e.0 x e.1 in
    lt-ltb tpl (greatest q) (omega (arith, a, b))

pub has_next : (q : List Entry) (tpl top : ℕ) → top ≡ greatest q → nat_lt tpl top ≡ is_some (next_entry q tpl)
has_next q tpl top e = ap (nat_lt tpl) e ∙ has_next_of q tpl (next_entry q tpl) (next_is_greatest q tpl)

-- ---- tick moments

more_ticks : (t : ℕ) (ts : List ℕ) (m : ℕ) → IsMoment ts m → IsMoment (t ∷ ts) m
more_ticks t ts m (inl h) = inl h
more_ticks t ts m (inr h) = inr (suc h.0, (let k = h.1 in omega (arith, k)), h.2)

first_moment_is : (ticks : List ℕ) (low : ℕ) → 0 < low → IsMoment ticks (first_moment ticks low)
unfolding first_moment
first_moment_is [] low h = inl ((let f = first_from [] low in omega (arith, f, h)), rounded_is low)
first_moment_is (t ∷ ts) low h = by (nat_le low t) (first_moment_is ts low h)
  where
    least : (m : ℕ) → IsMoment ts m → (b : Bool) → nat_le t m ≡ b → IsMoment (t ∷ ts) (min t m)
    least m k true e = let l = leb-true t m e in let same : t ≡ min t m = omega (arith, l) in subst (IsMoment (t ∷ ts)) same (inr (zero, omega arith, refl))
    least m k false e = let l = leb-false t m e in let same : m ≡ min t m = omega (arith, l) in subst (IsMoment (t ∷ ts)) same (more_ticks t ts m k)

    by : (b : Bool) → IsMoment ts (first_moment ts low) → IsMoment (t ∷ ts) (if b then min t (first_moment ts low) else first_moment ts low)
    by true k = least (first_moment ts low) k (nat_le t (first_moment ts low)) refl
    by false k = more_ticks t ts (first_moment ts low) k

first_moment_least : (ticks : List ℕ) (low other : ℕ) → IsMoment ticks other → low ≤ other → first_moment ticks low ≤ other
unfolding first_moment
first_moment_least [] low other (inl h) l = rounded_least low other l h.1
first_moment_least [] low other (inr h) l = absurd (let k = h.1 in omega (arith, k))
first_moment_least (t ∷ ts) low other (inl h) l = by (nat_le low t) (first_moment_least ts low other (inl h) l)
  where
    by : (b : Bool) → first_moment ts low ≤ other → (if b then min t (first_moment ts low) else first_moment ts low) ≤ other
    by true k = omega (arith, k)
    by false k = k
first_moment_least (t ∷ ts) low other (inr (zero, k, e)) l = rw (cond-true (nat_le low t) (min t (first_moment ts low)) (first_moment ts low) (le-leb low t (omega (arith, e, l)))) (omega (arith, e))
first_moment_least (t ∷ ts) low other (inr (suc i, k, e)) l = by (nat_le low t) (first_moment_least ts low other (inr (i, omega (arith, k), e)) l)
  where
    by : (b : Bool) → first_moment ts low ≤ other → (if b then min t (first_moment ts low) else first_moment ts low) ≤ other
    by true k = omega (arith, k)
    by false k = k

pub first_is_least : FirstIsLeast
first_is_least = λ ticks low h. record {
  is_moment = first_moment_is ticks low h;
  from = first_from ticks low;
  least = first_moment_least ticks low;
}

pub ticks_at_moments : TicksAtMoments
unfolding has_moment
ticks_at_moments = λ s present. (
  λ h. (moment_ahead s, (let f = first_from s.ticks (s.last_tick + 1) in omega (arith, f)), leb-true (moment_ahead s) present h, first_moment_is s.ticks (s.last_tick + 1) (omega arith)),
  λ h. le-leb (moment_ahead s) present (let f = first_moment_least s.ticks (s.last_tick + 1) h.0 h.3 (let l = h.1 in omega (arith, l)) in let l = h.2 in omega (arith, f, l)),
)

-- ---- no timer running

no_due : (a b : Option ℕ) → lesser a b ≡ None → (a ≡ None) × (b ≡ None)
no_due None b h = (refl, h)
no_due (Some a) None h = absurd (cc)
no_due (Some a) (Some b) h = absurd (cc)

not_due : (present : ℕ) (e : Event) → due_of e.timer ≡ None → is_due present e ≡ false
not_due present e h = ap (is_up_to present) h

pub idle_ticks : IdleTicks
idle_ticks = λ s present h. calm_tick s present (ap (is_up_to present) h)

-- ---- the moment that comes next

least_reached : (es : List Event) (due : ℕ) → least_due es ≡ Some due → (i : ℕ) × (e : Event) × (slice_get es i ≡ Some e) × (due_of e.timer ≡ Some due)
unfolding least_due
least_reached [] due h = absurd (cc)
least_reached (e ∷ es) due h = by (due_of e.timer) refl (least_due es) refl h (least_reached es)
  where
    later : (d : ℕ) → ((d : ℕ) → least_due es ≡ Some d → (i : ℕ) × (x : Event) × (slice_get es i ≡ Some x) × (due_of x.timer ≡ Some d)) → least_due es ≡ Some d
        → (i : ℕ) × (x : Event) × (slice_get (e ∷ es) i ≡ Some x) × (due_of x.timer ≡ Some d)
    later d f m = let k = f d m in (suc k.0, k.1, k.2, k.3)

    by : (a : Option ℕ) → due_of e.timer ≡ a → (b : Option ℕ) → least_due es ≡ b → lesser a b ≡ Some due
        → ((d : ℕ) → least_due es ≡ Some d → (i : ℕ) × (x : Event) × (slice_get es i ≡ Some x) × (due_of x.timer ≡ Some d))
        → (i : ℕ) × (x : Event) × (slice_get (e ∷ es) i ≡ Some x) × (due_of x.timer ≡ Some due)
    by None s b t h f = later due f (t ∙ h)
    by (Some a) s None t h f = (zero, e, refl, s ∙ h)
    by (Some a) s (Some b) t h f =
        elim (cases_Bool (nat_le a b)) [
          | inl m ↦ (let l = leb-true a b m in let same : min a b ≡ due = cc in let is : a ≡ due = omega (arith, l, same) in (zero, e, refl, s ∙ ap Some is))
          | inr m ↦ (let l = leb-false a b m in let same : min a b ≡ due = cc in let is : b ≡ due = omega (arith, l, same) in later due f (t ∙ ap Some is))
        ]

least_bounds : (es : List Event) (due : ℕ) → least_due es ≡ Some due → (i : ℕ) (e : Event) → slice_get es i ≡ Some e → (other : ℕ) → is_due other e ≡ true → due ≤ other
unfolding least_due
least_bounds [] due h i e g other d = absurd (cc)
least_bounds (x ∷ es) due h zero e g other d =
    let same : x ≡ e = cc in
    by (due_of x.timer) refl (least_due es) h (ap (is_due other) same ∙ d)
  where
    by : (a : Option ℕ) → due_of x.timer ≡ a → (b : Option ℕ) → lesser a b ≡ Some due → is_up_to other (due_of x.timer) ≡ true → due ≤ other
    by None s b h d = absurd (true≢false (sym d ∙ ap (is_up_to other) s))
    by (Some a) s None h d = let l = leb-true a other (sym (ap (is_up_to other) s) ∙ d) in let is : a ≡ due = cc in omega (arith, l, is)
    by (Some a) s (Some b) h d = let l = leb-true a other (sym (ap (is_up_to other) s) ∙ d) in let is : min a b ≡ due = cc in omega (arith, l, is)
least_bounds (x ∷ es) due h (suc i) e g other d = by (due_of x.timer) (least_due es) refl h (λ b t. least_bounds es b t i e g other d) (none_bounds es i e g other d)
  where
    none_bounds : (es : List Event) (i : ℕ) (e : Event) → slice_get es i ≡ Some e → (other : ℕ) → is_due other e ≡ true → least_due es ≡ None → ⊥
    none_bounds [] i e g other d n = cc
    none_bounds (y ∷ ys) zero e g other d n =
        let same : y ≡ e = cc in
        let k = no_due (due_of y.timer) (least_due ys) n in
        true≢false (sym d ∙ (ap (is_due other) (sym same) ∙ not_due other y k.0))
    none_bounds (y ∷ ys) (suc i) e g other d n = let k = no_due (due_of y.timer) (least_due ys) n in none_bounds ys i e g other d k.1

    by : (a b : Option ℕ) → least_due es ≡ b → lesser a b ≡ Some due → ((b : ℕ) → least_due es ≡ Some b → b ≤ other) → (least_due es ≡ None → ⊥) → due ≤ other
    by None (Some b) t h f n = let l = f b t in let is : b ≡ due = cc in omega (arith, l, is)
    by None None t h f n = absurd (n t)
    by (Some a) None t h f n = absurd (n t)
    by (Some a) (Some b) t h f n = let l = f b t in let is : min a b ≡ due = cc in omega (arith, l, is)

is_reached : (n m : ℕ) → reached n ≡ Some m → n ≡ m
is_reached n m h = by (nat_le n (2 ^ 64 - 1)) h
  where
    by : (b : Bool) → (if b then Some n else None) ≡ Some m → n ≡ m
    by true h = cc
    by false h = absurd (cc)

pub next_moment_is_due : NextMomentIsDue
unfolding next_moment
next_moment_is_due = λ s present moment h. by s present moment (least_due s.events) refl h
  where
    by : (s : EventList) (present moment : ℕ) (o : Option ℕ) → least_due s.events ≡ o → moment_for s present o ≡ Some moment → IsNextMoment s present moment
    by s present moment None d h = absurd (cc)
    by s present moment (Some due) d h =
        let low = max (s.last_tick + 1) (max present due) in
        let same = is_reached (first_moment s.ticks (max (s.last_tick + 1) (max present due))) moment h in
        let first = first_is_least s.ticks (max (s.last_tick + 1) (max present due)) (omega arith) in
        let from = first.from in
        let k = least_reached s.events due d in
        record {
          is_moment = subst (IsMoment s.ticks) same first.is_moment;
          above = omega (arith, from, same);
          from = omega (arith, from, same);
          due = (k.0, k.1, k.2, ap (is_up_to moment) k.3 ∙ le-leb due moment (omega (arith, from, same)));
          least = λ other m a b i e g u. (let l = least_bounds s.events due d i e g other u in let f = first.least other m (omega (arith, l, a, b)) in omega (arith, f, same));
        }
