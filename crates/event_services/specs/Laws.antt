-- What the definitions of a wait come to.
use Rattle.std.specs.Prelude.{ℕ, ◌≡◌, ◌<◌, true, false, List, slice_get, Option, Some, None}
use Rattle.uh_base.specs.Statuses.{success}
use Rattle.event_queue.specs.Queue.{EventList}
use Rattle.event_queue.specs.Calls.{checking, taking}
use Rattle.event_services.specs.declared.decision.Decision.{Decision}
use Rattle.event_services.specs.Waits.{decides, judged, polled}

-- The event at the place decides as the events stand when the wait begins, and no earlier one of the list does.
pub record IsFirst (s : EventList) (numbers : List ℕ) (decision : Decision) : Type 0 where
  pub number : ℕ
  pub here : slice_get numbers decision.place ≡ Some number
  pub status : decides (checking s number) ≡ Some decision.status
  pub earlier : (i other : ℕ) → i < decision.place → slice_get numbers i ≡ Some other → decides (checking s other) ≡ None

abbrev pub IsFirstOf : EventList → List ℕ → Option Decision → Type 0
IsFirstOf s numbers None = (i number : ℕ) → slice_get numbers i ≡ Some number → decides (checking s number) ≡ None
IsFirstOf s numbers (Some decision) = IsFirst s numbers decision

-- What ends a wait is the first event of its list that decides: that earlier ones are queued makes no difference.
abbrev pub FirstDecides : Type 0
FirstDecides = (s : EventList) (numbers : List ℕ) → IsFirstOf s numbers (judged 0 numbers s).decision

-- The event at the place is signalled, and no earlier one of the list is.
pub record IsFirstSignal (s : EventList) (numbers : List ℕ) (decision : Decision) : Type 0 where
  pub number : ℕ
  pub here : slice_get numbers decision.place ≡ Some number
  pub taken : taking s number ≡ true
  pub status : decision.status ≡ success
  pub earlier : (i other : ℕ) → i < decision.place → slice_get numbers i ≡ Some other → taking s other ≡ false

abbrev pub IsFirstSignalOf : EventList → List ℕ → Option Decision → Type 0
IsFirstSignalOf s numbers None = (i number : ℕ) → slice_get numbers i ≡ Some number → taking s number ≡ false
IsFirstSignalOf s numbers (Some decision) = IsFirstSignal s numbers decision

-- Behind its notifications a wait ends with the first signal.
abbrev pub FirstSignalIsTaken : Type 0
FirstSignalIsTaken = (s : EventList) (numbers : List ℕ) → IsFirstSignalOf s numbers (polled 0 numbers s).decision
