-- What is notified next.
use Rattle.std.proofs.Common.{◌≡◌, ℕ, zero, suc, ◌+◌, ◌<◌, ◌≤◌, List, [], ◌∷◌, map, length, get_or, refl, sym, ap, ◌∙◌, subst, arith, Bool, true, false, inl, inr}
use Rattle.std.specs.Prelude.{◌==◌, ◌&&◌, not, nat_le, Some, None, if◌then◌else◌, slice_get, slice_set}
use Rattle.std.specs.List.{list_all, find, filter, remove, position, position_from}
use Rattle.std.proofs.lemmas.Iterator.Adapters.{position_from-zero}
use Rattle.std.proofs.lemmas.Option.{slice_get-get_or}
use Rattle.std.proofs.lemmas.Bool.{and_parts, or_cases, true≢false, eqb-true, cond-true, cond-false, lt-ltb, le-ltb, leb-true}
use Rattle.event_queue.specs.declared.event.Event.{Event}
use Rattle.event_queue.specs.declared.event.Entry.{Entry}
use Rattle.event_queue.specs.Kinds.{notifies, is_level}
use Rattle.event_queue.specs.Queue.{EventList, Whole, shown, is_number, is_entry, event_at, is_live, is_entry_of, has_level, lowered, lowered_if, greatest, next_entry, after_next}
use Rattle.event_queue.proofs.Lists.{Only, none_found, place_none, any_left, all_filtered, only_mapped}
use Rattle.event_queue.proofs.Numbers.{only_event, once_filter}
use Rattle.event_queue.proofs.Live.{live_is_event, fresh_fewer}
use Rattle.event_queue.proofs.Wholes.{get_below, unqueued, whole_set, is_event_none}

pub next_low : (q : List Entry) (tpl top : ℕ) → top ≡ greatest q → top ≤ tpl → next_entry q tpl ≡ None
unfolding next_entry
next_low q tpl top e h = cond-false _ _ _ (le-ltb tpl (greatest q) (let g = greatest q in omega (arith, e, h)))

next_high : (q : List Entry) (tpl top : ℕ) → top ≡ greatest q → tpl < top → next_entry q tpl ≡ find (λ entry. entry.tpl == top) q
unfolding next_entry
next_high q tpl top e h =
    cond-true _ _ _ (lt-ltb tpl (greatest q) (let g = greatest q in omega (arith, e, h))) ∙ ap (λ (n : ℕ). find (λ entry. entry.tpl == n) q) (sym e)

pub found_none : (q : List Entry) (p : Entry → Bool) → position p q ≡ None → find p q ≡ None
found_none q p h = none_found p q (place_none p q h)

from_found : (p : Entry → Bool) (n i : ℕ) (xs : List Entry) → position_from p n xs ≡ Some i → (j : ℕ) × (x : Entry) × (i ≡ n + j) × (slice_get xs j ≡ Some x) × (find p xs ≡ Some x)
from_found p n i [] h = absurd (cc)
from_found p n i (x ∷ xs) h = by (p x) h (from_found p (n + 1) i xs)
  where
    by : (b : Bool) → (if b then Some n else position_from p (n + 1) xs) ≡ Some i
        → (position_from p (n + 1) xs ≡ Some i → (j : ℕ) × (x : Entry) × (i ≡ (n + 1) + j) × (slice_get xs j ≡ Some x) × (find p xs ≡ Some x))
        → (j : ℕ) × (y : Entry) × (i ≡ n + j) × (slice_get (x ∷ xs) j ≡ Some y) × ((if b then Some x else find p xs) ≡ Some y)
    by true e f = let same : n ≡ i = cc in (zero, x, omega arith, refl, refl)
    by false e f = let k = f e in let l = k.2 in (suc k.0, k.1, omega (arith, l), k.3, k.4)

-- the first that passes is what is found
pub found_some : (q : List Entry) (p : Entry → Bool) (i : ℕ) → position p q ≡ Some i → (x : Entry) × (slice_get q i ≡ Some x) × (find p q ≡ Some x)
found_some q p i h =
    let k = from_found p 0 i q (sym (position_from-zero p q) ∙ h) in
    let same : i ≡ k.0 = (let l = k.2 in omega (arith, l)) in
    (k.1, ap (slice_get q) same ∙ k.3, k.4)

pub next_none : (q : List Entry) (tpl top : ℕ) → top ≡ greatest q → None ≡ position (λ entry. entry.tpl == top) q → tpl < top → next_entry q tpl ≡ None
next_none q tpl top e f h = next_high q tpl top e h ∙ found_none q (λ entry. entry.tpl == top) (sym f)

pub next_below : (q : List Entry) (top i : ℕ) → Some i ≡ position (λ entry. entry.tpl == top) q → i < length q
next_below q top i f = let k = found_some q (λ entry. entry.tpl == top) i (sym f) in get_below i q k.0 k.1

pub next_here : (q : List Entry) (top i : ℕ) (d : Entry) → Some i ≡ position (λ entry. entry.tpl == top) q → slice_get q i ≡ Some (get_or q i d)
next_here q top i d f = slice_get-get_or q i d (next_below q top i f)

pub next_some : (q : List Entry) (tpl top i : ℕ) (d : Entry) → top ≡ greatest q → Some i ≡ position (λ entry. entry.tpl == top) q → tpl < top → next_entry q tpl ≡ Some (get_or q i d)
next_some q tpl top i d e f h =
    let k = found_some q (λ entry. entry.tpl == top) i (sym f) in next_high q tpl top e h ∙ (k.2 ∙ (sym k.1 ∙ next_here q top i d f))

-- ---- the notification taken

pub next_whole : (s : EventList) (i j : ℕ) (e : Event) (x : Entry) → Whole s → slice_get s.events i ≡ Some e → slice_get s.queue j ≡ Some x → e.number ≡ x.event
    → Whole (record s { events = slice_set s.events i (lowered e); queue = remove s.queue j })
next_whole s i j e x w g h n =
    let rest = unqueued s.queue j x.event x w.once h refl in
    let fewer : Whole (record s { queue = filter (λ entry. not (is_entry x.event entry)) s.queue }) = record {
      few = w.few;
      made = w.made;
      rising = w.rising;
      levels = w.levels;
      live = all_filtered (is_live s.events) (λ entry. not (is_entry x.event entry)) s.queue w.live;
      once = once_filter (λ entry. not (is_entry x.event entry)) s.queue w.once;
      fresh = fresh_fewer (λ entry. not (is_entry x.event entry)) s.queue s.events w.fresh;
    } in
    rw (← rest) (whole_set (record s { queue = filter (λ entry. not (is_entry x.event entry)) s.queue }) i e (lowered e) fewer g (record { number = refl; kind = refl; tpl = refl }) (λ f. rw n (any_left (is_entry x.event) s.queue)))

pub next_is : (s : EventList) (i j : ℕ) (e : Event) (x : Entry) → Whole s → slice_get s.events i ≡ Some e → slice_get s.queue j ≡ Some x → e.number ≡ x.event
    → record s { events = slice_set s.events i (lowered e); queue = remove s.queue j } ≡ after_next s (Some x)
unfolding after_next
next_is s i j e x w g h n =
    let mapped : map (lowered_if x.event) s.events ≡ slice_set s.events i (lowered e) = only_mapped (is_number x.event) lowered s.events i e (subst (λ m. Only (is_number m) s.events i e) n (only_event 8 (shown s.made) i s.events e w.rising g)) in
    rw (mapped, unqueued s.queue j x.event x w.once h refl) refl

all_here : (p : Entry → Bool) (xs : List Entry) (i : ℕ) (x : Entry) → list_all p xs ≡ true → slice_get xs i ≡ Some x → p x ≡ true
all_here p [] i x h g = absurd (cc)
all_here p (y ∷ ys) zero x h g = let same : y ≡ x = cc in ap p (sym same) ∙ (and_parts (p y) _ h).0
all_here p (y ∷ ys) (suc i) x h g = all_here p ys i x (and_parts (p y) _ h).1 g

-- the event of a notification is live
entry_live : (s : EventList) (j : ℕ) (x : Entry) → Whole s → slice_get s.queue j ≡ Some x → is_live s.events x ≡ true
entry_live s j x w h = all_here (is_live s.events) s.queue j x w.live h

pub has_event : (s : EventList) (j : ℕ) (x : Entry) → Whole s → slice_get s.queue j ≡ Some x → event_at s.events x.event ≡ None → ⊥
has_event s j x w h n = true≢false (sym (live_is_event s.events x (entry_live s j x w h)) ∙ is_event_none s.events x.event n)

notified_level : (e : Event) → notifies e.kind ≡ true → has_level e ≡ true → is_level e.tpl ≡ true
notified_level e n h = rw n at h

-- its level fits
live_level : (es : List Event) (x : Entry) → list_all has_level es ≡ true → is_live es x ≡ true → (5 ≤ x.tpl) × (x.tpl ≤ 30)
live_level [] x l h = absurd (cc)
live_level (e ∷ es) x l h =
    let k = and_parts (has_level e) _ l in
    elim (or_cases (is_entry_of x e) (is_live es x) h) [
      | inl m ↦
          (let a = and_parts (e.number == x.event) _ m in
          let b = and_parts (e.tpl == x.tpl) _ a.1 in
          let same = eqb-true e.tpl x.tpl b.0 in
          let c : (nat_le 5 e.tpl && nat_le e.tpl 30) ≡ true = notified_level e b.1 k.0 in
          let d = and_parts (nat_le 5 e.tpl) _ c in
          let low = leb-true 5 e.tpl d.0 in
          let high = leb-true e.tpl 30 d.1 in
          (omega (arith, same, low), omega (arith, same, high)))
      | inr m ↦ live_level es x k.1 m
    ]

pub entry_level : (s : EventList) (j : ℕ) (x : Entry) → Whole s → slice_get s.queue j ≡ Some x → (5 ≤ x.tpl) × (x.tpl ≤ 30)
entry_level s j x w h = live_level s.events x w.levels (entry_live s j x w h)

-- ---- the answers

pub some_next : (s now : EventList) (part : List Entry) (tpl : ℕ) (x : Entry) → s ≡ now → part ≡ s.queue → next_entry part tpl ≡ Some x → after_next s (Some x) ≡ after_next now (next_entry now.queue tpl)
some_next s now part tpl x v p h =
    ap (after_next s) (sym h ∙ ap (λ q. next_entry q tpl) p) ∙ ap (λ (t : EventList). after_next t (next_entry t.queue tpl)) v
