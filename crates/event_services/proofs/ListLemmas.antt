-- A list of events, one after another.
use Rattle.std.proofs.Common.{◌≡◌, ◌<◌, ◌+◌, ◌-◌, ℕ, suc, Bool, false, cond, sym, ap, ◌∙◌, arith}
use Rattle.std.specs.Prelude.{Option, Some, None, Result}
use Rattle.uh_base.specs.Bytes.{behind}
use Rattle.uh_base.specs.Statuses.{success}
use Rattle.guest_memory.specs.Pages.{Pages}
use Rattle.guest_call.specs.Checks.{number_seen}
use Rattle.event_queue.specs.Queue.{EventList, lower_one}
use Rattle.event_queue.specs.Calls.{checking, after_check, taking, after_taking}
use Rattle.event_queue.specs.declared.refusal.EventRefusal.{EventRefusal}
use Rattle.event_queue.specs.declared.refusal.Check.{Check}
use Rattle.event_services.specs.Waits.{Judged, events_seen, decides, or_later, judged, polled}

-- the list behind its first event
past : (see : ℕ → Option ℕ) (m : Pages) (at count place : ℕ) → place < count → events_seen see m at (count - place) ≡ events_seen see m at (suc (count - (place + 1)))
past see m at count place l = let same : count - place ≡ suc (count - (place + 1)) = omega (arith, l) in ap (events_seen see m at) same

one_judged : (see : ℕ → Option ℕ) (m : Pages) (at place left : ℕ) (s : EventList) (o : Option ℕ) → decides (checking s (number_seen see m at 8)) ≡ o
    → judged place (events_seen see m at (suc left)) s
    ≡ or_later o place (after_check (checking s (number_seen see m at 8)) s (number_seen see m at 8)) (judged (place + 1) (events_seen see m (behind at 8) left) (after_check (checking s (number_seen see m at 8)) s (number_seen see m at 8)))
unfolding judged events_seen
one_judged see m at place left s o e =
    ap (λ (o : Option ℕ). or_later o place (after_check (checking s (number_seen see m at 8)) s (number_seen see m at 8)) (judged (place + 1) (events_seen see m (behind at 8) left) (after_check (checking s (number_seen see m at 8)) s (number_seen see m at 8)))) e

-- a check of the event at a place that doesn't decide
pub judged_on : (see : ℕ → Option ℕ) (m : Pages) (at count place event : ℕ) (s t : EventList) (check : Result Check EventRefusal) (o : Option ℕ) (end : Judged) → place < count
    → event ≡ number_seen see m at 8 → check ≡ checking s event → t ≡ after_check check s event → o ≡ decides check → o ≡ None
    → judged place (events_seen see m at (count - place)) s ≡ end
    → judged (place + 1) (events_seen see m (behind at 8) (count - (place + 1))) t ≡ end
judged_on see m at count place event s t check o end l n a e d none h =
    rw (e, a, n) (sym (one_judged see m at place (count - (place + 1)) s None (rw (← n) (rw (← a) (sym d ∙ none)))) ∙ (sym (ap (λ numbers. judged place numbers s) (past see m at count place l)) ∙ h))

one_polled : (see : ℕ → Option ℕ) (m : Pages) (at place left : ℕ) (s : EventList) (taken : Bool) → taking s (number_seen see m at 8) ≡ taken
    → polled place (events_seen see m at (suc left)) s
    ≡ cond taken (record { decision = Some (record { status = success; place = place }); events = lower_one s (number_seen see m at 8) }) (polled (place + 1) (events_seen see m (behind at 8) left) s)
unfolding polled events_seen
one_polled see m at place left s taken e =
    ap (λ (taken : Bool). cond taken (record { decision = Some (record { status = success; place = place }); events = lower_one s (number_seen see m at 8) }) (polled (place + 1) (events_seen see m (behind at 8) left) s)) e

-- a poll of the event at a place that has no signal
pub polled_on : (see : ℕ → Option ℕ) (m : Pages) (at count place event : ℕ) (s t : EventList) (taken : Bool) (end : Judged) → place < count
    → event ≡ number_seen see m at 8 → taken ≡ taking s event → t ≡ after_taking taken s event → taken ≡ false
    → polled place (events_seen see m at (count - place)) s ≡ end
    → polled (place + 1) (events_seen see m (behind at 8) (count - (place + 1))) t ≡ end
polled_on see m at count place event s t taken end l n a e none h =
    let same : t ≡ s = e ∙ ap (λ (taken : Bool). after_taking taken s event) none in
    rw same (sym (one_polled see m at place (count - (place + 1)) s false (rw (← n) (sym a ∙ none))) ∙ (sym (ap (λ numbers. polled place numbers s) (past see m at count place l)) ∙ h))
