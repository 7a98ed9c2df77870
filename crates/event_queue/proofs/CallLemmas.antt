-- The laws of the calls, and how many are kept.
use Rattle.std.proofs.Common.{◌≡◌, ℕ, zero, suc, ◌+◌, ◌≤◌, List, [], ◌∷◌, ◌++◌, map, length, refl, sym, ap, arith, Bool, true, false, length-append}
use Rattle.std.specs.Prelude.{◌==◌, Option, Some, None, if◌then◌else◌, slice_get, Ok, Err}
use Rattle.std.specs.List.{filter}
use Rattle.std.proofs.lemmas.Bool.{eqb-true, ne_eqb, lt-leb}
use Rattle.uh_base.specs.declared.guid.Guid.{Guid}
use Rattle.event_queue.specs.declared.event.Event.{Event}
use Rattle.event_queue.specs.declared.event.Entry.{Entry}
use Rattle.event_queue.specs.declared.event.Notify.{Notify}
use Rattle.event_queue.specs.declared.refusal.EventRefusal.TheVariants.{Invalid, Full}
use Rattle.event_queue.specs.Kinds.{is_request}
use Rattle.event_queue.specs.Queue.{EventList, Whole, Rising, shown, is_event, signalled, next_entry, notified, called, call_of, level_calls, falling, is_kept, kept_calls}
use Rattle.event_queue.specs.Timers.{has_moment, moment_ahead, ticked, after_tick}
use Rattle.event_queue.specs.Calls.{creation, is_full, known, after_signal}
use Rattle.event_queue.specs.Laws.{IsNextOf, IsAbove, NextIsAbove, NumbersAreNew, SignalsAreCalls, TicksOnce}
use Rattle.event_queue.proofs.Lists.{length_filtered, none_found}
use Rattle.event_queue.proofs.Numbers.{rising_low}
use Rattle.event_queue.proofs.Live.{high_is_none}
use Rattle.event_queue.proofs.Moments.{first_from}
use Rattle.event_queue.proofs.Next.{entry_level}
use Rattle.event_queue.proofs.Signals.{unknown_signalled}
use Rattle.event_queue.proofs.LawLemmas.{next_is_greatest}

-- ---- what is notified next

above_of : (s : EventList) (tpl : ℕ) (o : Option Entry) (notify : Notify) → Whole s → IsNextOf s.queue tpl o → notified s.events o ≡ Some notify → IsAbove tpl notify
unfolding notified
above_of s tpl None notify w n h = absurd (cc)
above_of s tpl (Some entry) notify w n h =
    let same : called s.events entry ≡ notify = cc in
    let level : entry.tpl ≡ notify.tpl = ap (λ (x : Notify). x.tpl) same in
    let above = n.above in
    let earliest = n.earliest in
    let bounds = entry_level s earliest.0 entry w earliest.1 in
    let least = bounds.0 in
    let most = bounds.1 in
    record { above = omega (arith, level, above); least = omega (arith, level, least); most = omega (arith, level, most) }

pub next_is_above : NextIsAbove
next_is_above = λ s w tpl notify h. above_of s tpl (next_entry s.queue tpl) notify w (next_is_greatest s.queue tpl) h

-- ---- numbers

number_up_to : (low high i : ℕ) (es : List Event) (e : Event) → Rising low es high → slice_get es i ≡ Some e → e.number ≤ high
number_up_to low high i [] e h g = absurd (cc)
number_up_to low high zero (x ∷ es) e h g = let same : x ≡ e = cc in let n = ap (λ (y : Event). y.number) same in let l = rising_low x.number high es h.1 in omega (arith, n, l)
number_up_to low high (suc i) (x ∷ es) e h g = number_up_to x.number high i es e h.1 g

created : (s : EventList) (kind tpl function : ℕ) (group : Option Guid) (number : ℕ) → creation s kind tpl function group ≡ Ok number → shown (s.made + 1) ≡ number
unfolding creation
created s kind tpl function group number h = by (is_request kind tpl function group) (is_full s) h
  where
    by : (a b : Bool) → (if a then (if b then Err Full else Ok (shown (s.made + 1))) else Err Invalid) ≡ Ok number → shown (s.made + 1) ≡ number
    by true true e = absurd (cc)
    by true false e = cc
    by false b e = absurd (cc)

pub numbers_are_new : NumbersAreNew
numbers_are_new = λ s w kind tpl function group number h. (
    let n = created s kind tpl function group number h in
    record {
      unknown = high_is_none 8 (shown s.made) number s.events w.rising (omega (arith, n));
      above = λ i event g. (let l = number_up_to 8 (shown s.made) i s.events event w.rising g in omega (arith, n, l));
      after = omega (arith, n);
    })

-- ---- signals

pub signals_are_calls : SignalsAreCalls
unfolding known
signals_are_calls = λ s number. by s number (is_event s.events number) refl
  where
    by : (s : EventList) (number : ℕ) (b : Bool) → is_event s.events number ≡ b → signalled s number ≡ after_signal {X = Unit {0}} (if b then Ok (tt {0}) else Err Invalid) s number
    by s number true h = refl
    by s number false h = sym (unknown_signalled s number (none_found _ s.events h))

-- ---- one tick a moment

ticked_last : (s : EventList) (present : ℕ) → (ticked s present).last_tick ≡ present
unfolding ticked
ticked_last s present = refl

none_left : (s : EventList) (present : ℕ) → s.last_tick ≡ present → has_moment s present ≡ false
unfolding has_moment
none_left s present h = lt-leb (moment_ahead s) present (let f = first_from s.ticks (s.last_tick + 1) in omega (arith, f, h))

pub ticks_once : TicksOnce
unfolding after_tick
ticks_once = λ s present. by s present (has_moment s present) refl
  where
    by : (s : EventList) (present : ℕ) (b : Bool) → has_moment s present ≡ b → has_moment (if b then ticked s present else s) present ≡ false
    by s present true h = none_left (ticked s present) present (ticked_last s present)
    by s present false h = h

-- ---- how many are kept

none_fall : (n : ℕ) → length (falling n []) ≡ 0
unfolding falling
none_fall zero = refl
none_fall (suc n) = none_fall n

falling_same : (n : ℕ) (e : Event) (es : List Event) → n ≤ e.tpl → length (falling n (e ∷ es)) ≡ length (falling n es)
unfolding falling
falling_same zero e es h = refl
falling_same (suc n) e es h =
    let other : (e.tpl == n) ≡ false = ne_eqb e.tpl n (λ same. omega (arith, same, h)) in
    let rest = falling_same n e es (omega (arith, h)) in
    rw other (let a = length-append (level_calls n es) (falling n (e ∷ es)) in let b = length-append (level_calls n es) (falling n es) in omega (arith, a, b, rest))

falling_one : (n : ℕ) (e : Event) (es : List Event) → length (falling n (e ∷ es)) ≤ length (falling n es) + 1
unfolding falling
falling_one zero e es = omega arith
falling_one (suc n) e es = by (e.tpl == n) refl (falling_one n e es)
  where
    by : (b : Bool) → (e.tpl == n) ≡ b → length (falling n (e ∷ es)) ≤ length (falling n es) + 1
        → length (map call_of (if b then e ∷ filter (λ event. event.tpl == n) es else filter (λ event. event.tpl == n) es) ++ falling n (e ∷ es)) ≤ length (level_calls n es ++ falling n es) + 1
    by true t h =
        let same = eqb-true e.tpl n t in
        let rest = falling_same n e es (omega (arith, same)) in
        let a = length-append (call_of e ∷ level_calls n es) (falling n (e ∷ es)) in
        let b = length-append (level_calls n es) (falling n es) in
        omega (arith, a, b, rest)
    by false t h =
        let a = length-append (level_calls n es) (falling n (e ∷ es)) in
        let b = length-append (level_calls n es) (falling n es) in
        omega (arith, a, b, h)

falling_few : (n : ℕ) (es : List Event) → length (falling n es) ≤ length es
falling_few n [] = let h = none_fall n in omega (arith, h)
falling_few n (e ∷ es) = let h = falling_few n es in let k = falling_one n e es in omega (arith, h, k)

pub few_kept : (s : EventList) (group : Guid) → Whole s → length (kept_calls s.events group) ≤ 256
unfolding kept_calls
few_kept s group w =
    let a = falling_few 31 (filter (is_kept group) s.events) in
    let b = length_filtered (is_kept group) s.events in
    let c = w.few in
    omega (arith, a, b, c)
