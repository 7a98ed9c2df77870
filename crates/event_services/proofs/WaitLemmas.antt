-- The first event of a list that decides.
use Rattle.std.proofs.Common.{◌≡◌, ◌<◌, ◌+◌, ℕ, zero, suc, Bool, true, false, cond, List, [], ◌∷◌, refl, sym, ap, ◌∙◌, subst, arith}
use Rattle.std.specs.Prelude.{slice_get, Option, Some, None, Result, Ok, Err}
use Rattle.uh_base.specs.Statuses.{success}
use Rattle.event_queue.specs.declared.event.Entry.{Entry}
use Rattle.event_queue.specs.declared.refusal.EventRefusal.{EventRefusal}
use Rattle.event_queue.specs.declared.refusal.Check.{Check}
use Rattle.event_queue.specs.declared.refusal.Check.TheVariants.{Signalled, Queued, Quiet}
use Rattle.event_queue.specs.Queue.{EventList, is_queued, queue_one, lower_one, event_at}
use Rattle.event_queue.specs.Calls.{checking, check_of, after_check, taking}
use Rattle.event_services.specs.declared.decision.Decision.{Decision}
use Rattle.event_services.specs.Waits.{Judged, decides, or_later, judged, polled}
use Rattle.event_services.specs.Laws.{IsFirstOf, FirstDecides, IsFirstSignalOf, FirstSignalIsTaken}

-- ---- checks that don't decide leave the events

kept_by : (b : Bool) (s : EventList) (queue : List Entry) → (cond b s (record s { queue = queue })).events ≡ s.events
kept_by true s queue = refl
kept_by false s queue = refl

queued_events : (s : EventList) (number : ℕ) → (queue_one s number).events ≡ s.events
unfolding queue_one
queued_events s number = kept_by (is_queued s.queue number) s _

passed_events : (check : Result Check EventRefusal) (s : EventList) (number : ℕ) → decides check ≡ None → (after_check check s number).events ≡ s.events
passed_events (Ok Signalled) s number e = absurd (cc)
passed_events (Ok Queued) s number e = queued_events s number
passed_events (Ok Quiet) s number e = refl
passed_events (Err refusal) s number e = absurd (cc)

same_checks : (s t : EventList) → t.events ≡ s.events → (number : ℕ) → checking t number ≡ checking s number
unfolding checking
same_checks s t e number = ap (λ events. check_of (event_at events number)) e

-- ---- the first that decides, of a part of the list that begins at a place

none_there : (numbers : List ℕ) (i number : ℕ) → numbers ≡ [] → slice_get numbers i ≡ Some number → ⊥
none_there [] zero number e g = absurd (cc)
none_there [] (suc i) number e g = absurd (cc)
none_there (first ∷ numbers) i number e g = absurd (cc)

-- what is so of the first of a list and of each behind it is so of each
each_of : (P : ℕ → Type 0) (first : ℕ) (numbers : List ℕ) → P first → ((i number : ℕ) → slice_get numbers i ≡ Some number → P number)
    → (i number : ℕ) → slice_get (first ∷ numbers) i ≡ Some number → P number
each_of P first numbers p h zero number g = let same : first ≡ number = cc in subst P same p
each_of P first numbers p h (suc i) number g = h i number g

each_below : (P : ℕ → Type 0) (first : ℕ) (numbers : List ℕ) (count : ℕ) → P first → ((i number : ℕ) → i < count → slice_get numbers i ≡ Some number → P number)
    → (i number : ℕ) → i < suc count → slice_get (first ∷ numbers) i ≡ Some number → P number
each_below P first numbers count p h zero number l g = let same : first ≡ number = cc in subst P same p
each_below P first numbers count p h (suc i) number l g = h i number (omega (arith, l)) g

record FirstFrom (s : EventList) (from : ℕ) (numbers : List ℕ) (decision : Decision) : Type 0 where
  count : ℕ
  number : ℕ
  at : decision.place ≡ from + count
  here : slice_get numbers count ≡ Some number
  status : decides (checking s number) ≡ Some decision.status
  earlier : (i other : ℕ) → i < count → slice_get numbers i ≡ Some other → decides (checking s other) ≡ None

abbrev FirstFromOf : EventList → ℕ → List ℕ → Option Decision → Type 0
FirstFromOf s from numbers None = (i number : ℕ) → slice_get numbers i ≡ Some number → decides (checking s number) ≡ None
FirstFromOf s from numbers (Some decision) = FirstFrom s from numbers decision

first_here : (s : EventList) (from first : ℕ) (numbers : List ℕ) (status : ℕ) → decides (checking s first) ≡ Some status → FirstFrom s from (first ∷ numbers) (record { status = status; place = from })
first_here s from first numbers status e = record { count = 0; number = first; at = omega arith; here = refl; status = e; earlier = λ i other l g. absurd (omega (arith, l)) }

first_behind : (s : EventList) (from first : ℕ) (numbers : List ℕ) (o : Option Decision) → decides (checking s first) ≡ None → FirstFromOf s (from + 1) numbers o → FirstFromOf s from (first ∷ numbers) o
first_behind s from first numbers None e h = each_of (λ (k : ℕ). decides (checking s k) ≡ None) first numbers e h
first_behind s from first numbers (Some decision) e h =
    let at = h.at in
    record {
      count = suc h.count;
      number = h.number;
      at = omega (arith, at);
      here = h.here;
      status = h.status;
      earlier = each_below (λ (k : ℕ). decides (checking s k) ≡ None) first numbers h.count e h.earlier;
    }

one_more : (s t : EventList) (from first : ℕ) (numbers : List ℕ) (o : Option ℕ) (later : Judged) → decides (checking s first) ≡ o → (o ≡ None → FirstFromOf s (from + 1) numbers later.decision)
    → FirstFromOf s from (first ∷ numbers) (or_later o from t later).decision
one_more s t from first numbers None later e h = first_behind s from first numbers later.decision e (h refl)
one_more s t from first numbers (Some status) later e h = first_here s from first numbers status e

first_from : (numbers : List ℕ) (from : ℕ) (s t : EventList) → t.events ≡ s.events → FirstFromOf s from numbers (judged from numbers t).decision
unfolding judged
first_from [] from s t e = λ i number g. absurd (none_there [] i number refl g)
first_from (first ∷ numbers) from s t e =
    one_more s (after_check (checking t first) t first) from first numbers (decides (checking t first)) (judged (from + 1) numbers (after_check (checking t first) t first))
    (ap decides (sym (same_checks s t e first)))
    (λ p. first_from numbers (from + 1) s (after_check (checking t first) t first) (passed_events (checking t first) t first p ∙ e))

from_start : (s : EventList) (numbers : List ℕ) (o : Option Decision) → FirstFromOf s 0 numbers o → IsFirstOf s numbers o
from_start s numbers None h = h
from_start s numbers (Some decision) h =
    let at = h.at in
    let same : decision.place ≡ h.count = omega (arith, at) in
    record {
      number = h.number;
      here = ap (slice_get numbers) same ∙ h.here;
      status = h.status;
      earlier = λ i other l g. h.earlier i other (omega (arith, l, same)) g;
    }

pub first_decides : FirstDecides
first_decides s numbers = from_start s numbers (judged 0 numbers s).decision (first_from numbers 0 s s refl)

-- ---- the first signal, of a part of the list that begins at a place

record SignalFrom (s : EventList) (from : ℕ) (numbers : List ℕ) (decision : Decision) : Type 0 where
  count : ℕ
  number : ℕ
  at : decision.place ≡ from + count
  here : slice_get numbers count ≡ Some number
  taken : taking s number ≡ true
  status : decision.status ≡ success
  earlier : (i other : ℕ) → i < count → slice_get numbers i ≡ Some other → taking s other ≡ false

abbrev SignalFromOf : EventList → ℕ → List ℕ → Option Decision → Type 0
SignalFromOf s from numbers None = (i number : ℕ) → slice_get numbers i ≡ Some number → taking s number ≡ false
SignalFromOf s from numbers (Some decision) = SignalFrom s from numbers decision

signal_here : (s : EventList) (from first : ℕ) (numbers : List ℕ) → taking s first ≡ true → SignalFrom s from (first ∷ numbers) (record { status = success; place = from })
signal_here s from first numbers e = record { count = 0; number = first; at = omega arith; here = refl; taken = e; status = refl; earlier = λ i other l g. absurd (omega (arith, l)) }

signal_behind : (s : EventList) (from first : ℕ) (numbers : List ℕ) (o : Option Decision) → taking s first ≡ false → SignalFromOf s (from + 1) numbers o → SignalFromOf s from (first ∷ numbers) o
signal_behind s from first numbers None e h = each_of (λ (k : ℕ). taking s k ≡ false) first numbers e h
signal_behind s from first numbers (Some decision) e h =
    let at = h.at in
    record {
      count = suc h.count;
      number = h.number;
      at = omega (arith, at);
      here = h.here;
      taken = h.taken;
      status = h.status;
      earlier = each_below (λ (k : ℕ). taking s k ≡ false) first numbers h.count e h.earlier;
    }

one_polled : (s : EventList) (from first : ℕ) (numbers : List ℕ) (taken : Bool) (later : Judged) → taking s first ≡ taken → SignalFromOf s (from + 1) numbers later.decision
    → SignalFromOf s from (first ∷ numbers) (cond taken (record { decision = Some (record { status = success; place = from }); events = lower_one s first }) later).decision
one_polled s from first numbers false later e h = signal_behind s from first numbers later.decision e h
one_polled s from first numbers true later e h = signal_here s from first numbers e

signal_from : (numbers : List ℕ) (from : ℕ) (s : EventList) → SignalFromOf s from numbers (polled from numbers s).decision
unfolding polled
signal_from [] from s = λ i number g. absurd (none_there [] i number refl g)
signal_from (first ∷ numbers) from s = one_polled s from first numbers (taking s first) (polled (from + 1) numbers s) refl (signal_from numbers (from + 1) s)

signal_from_start : (s : EventList) (numbers : List ℕ) (o : Option Decision) → SignalFromOf s 0 numbers o → IsFirstSignalOf s numbers o
signal_from_start s numbers None h = h
signal_from_start s numbers (Some decision) h =
    let at = h.at in
    let same : decision.place ≡ h.count = omega (arith, at) in
    record {
      number = h.number;
      here = ap (slice_get numbers) same ∙ h.here;
      taken = h.taken;
      status = h.status;
      earlier = λ i other l g. h.earlier i other (omega (arith, l, same)) g;
    }

pub first_taken : FirstSignalIsTaken
first_taken s numbers = signal_from_start s numbers (polled 0 numbers s).decision (signal_from numbers 0 s)
