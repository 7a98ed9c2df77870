-- Events by their numbers, which rise, and the queue, in which each stands once.
use Rattle.std.proofs.Common.{◌≡◌, ℕ, zero, suc, ◌<◌, ◌≤◌, List, [], ◌∷◌, ◌++◌, map, set, refl, sym, ap, arith, Bool, true, false}
use Rattle.std.specs.Prelude.{◌==◌, Some, if◌then◌else◌, slice_get}
use Rattle.std.specs.List.{filter}
use Rattle.std.proofs.lemmas.Bool.{or_parts, or_from, eq-eqb, ne_eqb, eqb-false}
use Rattle.event_queue.specs.declared.event.Event.{Event}
use Rattle.event_queue.specs.declared.event.Entry.{Entry}
use Rattle.event_queue.specs.Queue.{Rising, EachOnce, is_number, is_entry, is_event, is_queued}
use Rattle.event_queue.proofs.Lists.{Only, any_filtered}

-- ---- numbers

pub rising_weak : (low low' high : ℕ) (es : List Event) → low' ≤ low → Rising low es high → Rising low' es high
rising_weak low low' high [] l h = omega arith
rising_weak low low' high (e ∷ es) l h = (let k = h.0 in omega arith, h.1)

pub rising_low : (low high : ℕ) (es : List Event) → Rising low es high → low ≤ high
rising_low low high [] h = h
rising_low low high (e ∷ es) h = let k = h.0 in let l = rising_low e.number high es h.1 in omega arith

pub low_is_none : (low high n : ℕ) (es : List Event) → Rising low es high → n ≤ low → is_event es n ≡ false
low_is_none low high n [] h l = refl
low_is_none low high n (e ∷ es) h l =
    let k = h.0 in or_from (e.number == n) _ (ne_eqb e.number n (λ same. omega arith)) (low_is_none e.number high n es h.1 (omega arith))

pub number_above : (low high i : ℕ) (es : List Event) (e : Event) → Rising low es high → slice_get es i ≡ Some e → low < e.number
number_above low high i [] e h g = absurd (cc)
number_above low high zero (x ∷ es) e h g = let k = h.0 in let same : x ≡ e = cc in rw (← same) k
number_above low high (suc i) (x ∷ es) e h g = let k = h.0 in let l = number_above x.number high i es e h.1 g in omega arith

pub only_event : (low high i : ℕ) (es : List Event) (e : Event) → Rising low es high → slice_get es i ≡ Some e → Only (is_number e.number) es i e
only_event low high i [] e h g = cc
only_event low high zero (x ∷ es) e h g =
    let same : x ≡ e = cc in
    let n : x.number ≡ e.number = ap (λ (y : Event). y.number) same in
    (same, eq-eqb x.number e.number n, low_is_none x.number high e.number es h.1 (omega arith))
only_event low high (suc i) (x ∷ es) e h g =
    let l = number_above x.number high i es e h.1 g in
    (ne_eqb x.number e.number (λ same. omega arith), only_event x.number high i es e h.1 g)

pub rising_map : (f : Event → Event) (low high : ℕ) (es : List Event) → ((e : Event) → (f e).number ≡ e.number) → Rising low es high → Rising low (map f es) high
rising_map f low high [] k h = h
rising_map f low high (e ∷ es) k h = rw (k e) (h.0, rising_map f e.number high es k h.1)

pub rising_set : (low high i : ℕ) (es : List Event) (e y : Event) → slice_get es i ≡ Some e → y.number ≡ e.number → Rising low es high → Rising low (set es i y) high
rising_set low high i [] e y g k h = absurd (cc)
rising_set low high zero (x ∷ es) e y g k h =
    let n : y.number ≡ x.number = (let same : x ≡ e = cc in rw same k) in
    rw n h
rising_set low high (suc i) (x ∷ es) e y g k h = (h.0, rising_set x.number high i es e y g k h.1)

pub rising_filter : (p : Event → Bool) (low high : ℕ) (es : List Event) → Rising low es high → Rising low (filter p es) high
rising_filter p low high [] h = h
rising_filter p low high (e ∷ es) h = by (p e) (rising_filter p e.number high es h.1)
  where
    by : (b : Bool) → Rising e.number (filter p es) high → Rising low (if b then e ∷ filter p es else filter p es) high
    by true k = (h.0, k)
    by false k = rising_weak e.number low high (filter p es) (let l = h.0 in omega arith) k

pub rising_push : (low high next : ℕ) (es : List Event) (e : Event) → Rising low es high → high < e.number → e.number ≤ next → Rising low (es ++ e ∷ []) next
rising_push low high next [] e h l m = (omega arith, m)
rising_push low high next (x ∷ es) e h l m = (h.0, rising_push x.number high next es e h.1 l m)

-- ---- the queue

pub once_filter : (p : Entry → Bool) (q : List Entry) → EachOnce q → EachOnce (filter p q)
once_filter p [] h = tt
once_filter p (x ∷ q) h = by (p x) (any_filtered (is_entry x.event) p q h.0) (once_filter p q h.1)
  where
    by : (b : Bool) → is_queued (filter p q) x.event ≡ false → EachOnce (filter p q) → EachOnce (if b then x ∷ filter p q else filter p q)
    by true k l = (k, l)
    by false k l = l

pub not_queued_push : (n : ℕ) (q : List Entry) (x : Entry) → is_queued q n ≡ false → (x.event == n) ≡ false → is_queued (q ++ x ∷ []) n ≡ false
not_queued_push n [] x h k = or_from (x.event == n) false k refl
not_queued_push n (y ∷ q) x h k = let l = or_parts (y.event == n) (is_queued q n) h in or_from (y.event == n) _ l.0 (not_queued_push n q x l.1 k)

pub once_push : (q : List Entry) (x : Entry) → EachOnce q → is_queued q x.event ≡ false → EachOnce (q ++ x ∷ [])
once_push [] x h k = (refl, tt)
once_push (y ∷ q) x h k =
    let l = or_parts (y.event == x.event) (is_queued q x.event) k in
    (not_queued_push y.event q x h.0 (ne_eqb x.event y.event (λ same. eqb-false y.event x.event l.0 (sym same))), once_push q x h.1 l.1)

pub not_queued_here : (n i : ℕ) (q : List Entry) (x : Entry) → is_queued q n ≡ false → slice_get q i ≡ Some x → (x.event == n) ≡ false
not_queued_here n i [] x h g = absurd (cc)
not_queued_here n zero (y ∷ q) x h g =
    let l = or_parts (y.event == n) (is_queued q n) h in
    let same : y ≡ x = cc in
    rw (← same) l.0
not_queued_here n (suc i) (y ∷ q) x h g = let l = or_parts (y.event == n) (is_queued q n) h in not_queued_here n i q x l.1 g

pub only_entry : (i : ℕ) (q : List Entry) (x : Entry) → EachOnce q → slice_get q i ≡ Some x → Only (is_entry x.event) q i x
only_entry i [] x h g = cc
only_entry zero (y ∷ q) x h g =
    let same : y ≡ x = cc in
    let n : y.event ≡ x.event = ap (λ (z : Entry). z.event) same in
    (same, eq-eqb y.event x.event n, rw n at h.0)
only_entry (suc i) (y ∷ q) x h g =
    (ne_eqb y.event x.event (λ same. eqb-false x.event y.event (not_queued_here y.event i q x h.0 g) (sym same)), only_entry i q x h.1 g)
