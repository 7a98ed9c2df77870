-- A job is its next turn, and the rest of it.
use Rattle.std.proofs.Common.{◌≡◌, ◌⊎◌, inl, inr, ℕ, zero, suc, ◌+◌, ◌≤◌, ◌<◌, Bool, true, false, not, List, [], ◌∷◌, length, Option, Some, None, refl, sym, ap, ◌∙◌, arith}
use Rattle.std.specs.Prelude.{◌==◌, nat_lt, if◌then◌else◌}
use Rattle.std.specs.List.{find, filter}
use Rattle.std.proofs.lemmas.Bool.Decides.{nat_tests}
use Rattle.event_queue.specs.declared.event.Entry.{Entry}
use Rattle.event_queue.specs.declared.event.Notify.{Notify}
use Rattle.event_queue.specs.Queue.{EventList, is_entry, greatest, next_entry, notified, after_next}
use Rattle.event_queue.specs.Timers.{has_moment, ticked}
use Rattle.event_queue.specs.Laws.{TicksOnce}
use Rattle.firmware_core.specs.declared.happened.Happened.{Happened}
use Rattle.firmware_core.specs.declared.happened.Happened.TheVariants.{Turned, Said, Left, Trapped, Reset, Halted}
use Rattle.firmware_core.specs.declared.happened.Halt.{Halt}
use Rattle.firmware_core.specs.Parts.{Parts}
use Rattle.record_text.specs.declared.cause.Cause.TheVariants as causes
use Rattle.firmware_core.specs.declared.happened.JobEnd.TheVariants as ends
use Rattle.firmware_core.specs.Frames.{tick_is_due, notice_of, with_notification, is_full, in_call, call_over}
use Rattle.firmware_core.specs.Turns.{State, Turn, Tick, Notice, tick_turn, next_turn, bound_halt, turn_of}
use Rattle.firmware_core.specs.Jobs.{Job, counts, or_next, uncounted, events_behind, most_uncounted, settled, joined, said_before, turns_of, steps_left, job_of, goes_on, JobsAreTurns}
use Rattle.firmware_core.proofs.TurnLemmas.{Comes, Ticks, Notices, Neither, comes, none_behind, counted_counts, next_is_tick, next_is_notice, next_is_counted, turn_is, full_turn, stopped_by, turn_counts, turn_keeps, turn_happens, last_turn}

-- ---- what starts leaves the queue

not_more : (p : Entry → Bool) (queue : List Entry) → length (filter p queue) ≤ length queue
not_more p [] = omega arith
not_more p (entry ∷ queue) = by (p entry) (not_more p queue)
  where
    by : (b : Bool) → length (filter p queue) ≤ length queue → length (if b then entry ∷ filter p queue else filter p queue) ≤ length (entry ∷ queue)
    by true h = omega (arith, h)
    by false h = omega (arith, h)

abbrev Others : Entry → Entry → Bool
Others entry other = not (is_entry entry.event other)

same_entry : (n : ℕ) → not (n == n) ≡ false
same_entry n = grind (arith, nat_tests)

module _ (p : Entry → Bool) (entry first : Entry) (queue : List Entry) where
  kept_or_not : (b : Bool) → length (filter (Others entry) queue) < length queue → length (if b then first ∷ filter (Others entry) queue else filter (Others entry) queue) < length (first ∷ queue)
  kept_or_not true k = omega (arith, k)
  kept_or_not false k = omega (arith, k)

  dropped : first ≡ entry → length (if Others entry first then first ∷ filter (Others entry) queue else filter (Others entry) queue) < length (first ∷ queue)
  dropped e = rw e (rw (same_entry entry.event) (let k = not_more (Others entry) queue in omega (arith, k)))

  found_by : (b : Bool) → (if b then Some first else find p queue) ≡ Some entry → (find p queue ≡ Some entry → length (filter (Others entry) queue) < length queue) → length (filter (Others entry) (first ∷ queue)) < length (first ∷ queue)
  found_by true e rest = dropped (cc)
  found_by false e rest = kept_or_not (Others entry first) (rest e)

found_leaves : (p : Entry → Bool) (entry : Entry) (queue : List Entry) → find p queue ≡ Some entry → length (filter (Others entry) queue) < length queue
found_leaves p entry [] h = let bad : ⊥ = cc in absurd bad
found_leaves p entry (first ∷ queue) h = found_by p entry first queue (p first) h (found_leaves p entry queue)

next_found : (queue : List Entry) (tpl : ℕ) (entry : Entry) → next_entry queue tpl ≡ Some entry → find (λ other. other.tpl == greatest queue) queue ≡ Some entry
unfolding next_entry
next_found queue tpl entry h = by (nat_lt tpl (greatest queue)) h
  where
    by : (b : Bool) → (if b then find (λ other. other.tpl == greatest queue) queue else None) ≡ Some entry → find (λ other. other.tpl == greatest queue) queue ≡ Some entry
    by true k = k
    by false k = let bad : ⊥ = cc in absurd bad

-- ---- how many turns that count no step may come

quiet_events : (f : Parts) → tick_is_due f ≡ false → events_behind f ≡ f.events
quiet_events f h = rw h refl

due_events : (f : Parts) → tick_is_due f ≡ true → events_behind f ≡ ticked f.events f.time
due_events f h = rw h refl

abbrev pub one_if : Bool → ℕ
one_if true = 1
one_if false = 0

-- a tick where one is due, and a start for each notification that then stands in the queue
abbrev pub need : State → ℕ
need s = one_if (tick_is_due s.firmware) + length (events_behind s.firmware).queue

at_most_one : (b : Bool) → one_if b ≤ 1
at_most_one true = omega arith
at_most_one false = omega arith

need_is : (s : State) → need s ≡ one_if (tick_is_due s.firmware) + length (events_behind s.firmware).queue
need_is s = refl

enough : (s : State) → need s ≤ most_uncounted s
enough s = let one = at_most_one (tick_is_due s.firmware) in let is = need_is s in omega (arith, one, is)

quiet_need : (s : State) → tick_is_due s.firmware ≡ false → need s ≡ length s.firmware.events.queue
quiet_need s h =
    let none : one_if (tick_is_due s.firmware) ≡ 0 = ap one_if h in
    let same : length (events_behind s.firmware).queue ≡ length s.firmware.events.queue = ap (λ (e : EventList). length e.queue) (quiet_events s.firmware h) in
    let is = need_is s in
    omega (arith, none, same, is)

due_need : (s : State) → tick_is_due s.firmware ≡ true → need s ≡ length (events_behind s.firmware).queue + 1
due_need s h =
    let one : one_if (tick_is_due s.firmware) ≡ 1 = ap one_if h in
    let is = need_is s in
    omega (arith, one, is)

module _ (once : TicksOnce) where
  tick_falls : (s : State) → tick_is_due s.firmware ≡ true → need (tick_turn s).state < need s
  tick_falls s h =
      let is = due_events s.firmware h in
      let quiet = none_behind once s.firmware h in
      let after : need (tick_turn s).state ≡ length (ticked s.firmware.events s.firmware.time).queue = quiet_need (tick_turn s).state quiet in
      let before = due_need s h in
      let same : length (events_behind s.firmware).queue ≡ length (ticked s.firmware.events s.firmware.time).queue = ap (λ (e : EventList). length e.queue) is in
      omega (arith, after, before, same)

  notice_by : (s : State) (n : Notify) → tick_is_due s.firmware ≡ false → (o : Option Entry) → next_entry s.firmware.events.queue s.firmware.hart.tpl ≡ o → notified s.firmware.events.events o ≡ Some n
      → need (record s { firmware = with_notification (record s.firmware { events = after_next s.firmware.events o }) n }) < need s
  unfolding notified after_next with_notification has_moment
  notice_by s n quiet None e h = let bad : ⊥ = cc in absurd bad
  notice_by s n quiet (Some entry) e h =
      let found = found_leaves _ entry s.firmware.events.queue (next_found s.firmware.events.queue s.firmware.hart.tpl entry e) in
      let after = quiet_need (record s { firmware = with_notification (record s.firmware { events = after_next s.firmware.events (Some entry) }) n }) quiet in
      let before = quiet_need s quiet in
      omega (arith, found, after, before)

  notice_falls : (s : State) (n : Notify) → tick_is_due s.firmware ≡ false → notice_of s.firmware ≡ Some n → (b : Bool) → (full_turn s n b).happened ≡ Turned
      → need (full_turn s n b).state < need s
  notice_falls s n quiet notice true h = let bad : ⊥ = cc in absurd bad
  notice_falls s n quiet notice false h = notice_by s n quiet (next_entry s.firmware.events.queue s.firmware.hart.tpl) refl notice

  falls_by : (s : State) → Comes s → counts (next_turn s) ≡ false → (turn_of s).happened ≡ Turned → need (turn_of s).state < need s
  falls_by s (Ticks tick) k h = rw (turn_is s Tick (next_is_tick s tick)) (tick_falls s tick)
  falls_by s (Notices n quiet notice) k h =
      let is = turn_is s (Notice n) (next_is_notice s n quiet notice) in
      rw is (notice_falls s n quiet notice (is_full s.firmware) (rw is at h))
  falls_by s (Neither quiet none) k h =
      let e : true ≡ false = sym (counted_counts s) ∙ ap counts (sym (next_is_counted s quiet none)) ∙ k in
      let bad : ⊥ = cc in absurd bad

  pub need_falls : (s : State) → counts (next_turn s) ≡ false → (turn_of s).happened ≡ Turned → need (turn_of s).state < need s
  need_falls s k h = falls_by s (comes s) k h

  idle_queue : (s : State) → tick_is_due s.firmware ≡ false → (queue : List Entry) → s.firmware.events.queue ≡ queue → length queue ≡ 0 → notice_of s.firmware ≡ None
  unfolding notified next_entry greatest
  idle_queue s quiet [] e h = let none : nat_lt s.firmware.hart.tpl 0 ≡ false = grind (arith, nat_tests) in rw e (rw none refl)
  idle_queue s quiet (entry ∷ queue) e h = let bad : ⊥ = omega (arith, h) in absurd bad

  idle_by : (s : State) → (b : Bool) → tick_is_due s.firmware ≡ b → need s ≤ 0 → counts (next_turn s) ≡ true
  idle_by s true e h = let n = due_need s e in let bad : ⊥ = omega (arith, n, h) in absurd bad
  idle_by s false e h =
      let n = quiet_need s e in
      let none : length s.firmware.events.queue ≡ 0 = omega (arith, n, h) in
      ap counts (next_is_counted s e (idle_queue s e s.firmware.events.queue refl none)) ∙ counted_counts s

  idle : (s : State) → need s ≤ 0 → counts (next_turn s) ≡ true
  idle s h = idle_by s (tick_is_due s.firmware) refl h

  nothing_comes : (n : ℕ) (s : State) → counts (next_turn s) ≡ true → uncounted n s ≡ record { happened = Turned; state = s }
  unfolding uncounted
  nothing_comes zero s k = refl
  nothing_comes (suc n) s k = rw k refl

  module _ (m n : ℕ) (again : (t : State) → need t ≤ m → need t ≤ n → uncounted m t ≡ uncounted n t) (s : State) (h : need s ≤ suc m) (g : need s ≤ suc n) where
    behind_turn : counts (next_turn s) ≡ false → (happened : Happened) → (turn_of s).happened ≡ happened
        → or_next (turn_of s) happened (uncounted m (turn_of s).state) ≡ or_next (turn_of s) happened (uncounted n (turn_of s).state)
    behind_turn k Turned t = let falls = need_falls s k t in again (turn_of s).state (omega (arith, falls, h)) (omega (arith, falls, g))
    behind_turn k (Said line) t = refl
    behind_turn k (Left value steps) t = refl
    behind_turn k (Trapped cause steps) t = refl
    behind_turn k (Reset kind status) t = refl
    behind_turn k (Halted halt) t = refl

    stable_by : (b : Bool) → counts (next_turn s) ≡ b → (if b then record { happened = Turned; state = s } else or_next (turn_of s) (turn_of s).happened (uncounted m (turn_of s).state)) ≡ (if b then record { happened = Turned; state = s } else or_next (turn_of s) (turn_of s).happened (uncounted n (turn_of s).state))
    stable_by true k = refl
    stable_by false k = behind_turn k (turn_of s).happened refl

    stable_step : uncounted (suc m) s ≡ uncounted (suc n) s
    unfolding uncounted
    stable_step = stable_by (counts (next_turn s)) refl

  -- more turns than may come make no difference
  stable : (m n : ℕ) (s : State) → need s ≤ m → need s ≤ n → uncounted m s ≡ uncounted n s
  stable zero n s h g = nothing_comes zero s (idle s h) ∙ sym (nothing_comes n s (idle s h))
  stable (suc m) zero s h g = nothing_comes (suc m) s (idle s g) ∙ sym (nothing_comes zero s (idle s g))
  stable (suc m) (suc n) s h g = stable_step m n (stable m n) s h g

  -- ---- the job

  counted_settled : (s : State) → counts (next_turn s) ≡ true → settled s ≡ record { happened = Turned; state = s }
  unfolding settled
  counted_settled s k = nothing_comes (most_uncounted s) s k

  free_settled : (s : State) → counts (next_turn s) ≡ false → (turn_of s).happened ≡ Turned → settled s ≡ settled (turn_of s).state
  unfolding settled uncounted
  free_settled s k h =
      let falls = need_falls s k h in
      let most = enough s in
      rw k (rw h (stable _ (most_uncounted (turn_of s).state) (turn_of s).state (omega (arith, falls, most)) (enough (turn_of s).state)))

  halt_settled : (s : State) (halt : Halt) → counts (next_turn s) ≡ false → (turn_of s).happened ≡ Halted halt → settled s ≡ turn_of s
  unfolding settled uncounted
  halt_settled s halt k h = rw k (rw h refl)

  same_turns : (n : ℕ) (s t : State) → settled s ≡ settled t → turns_of n s ≡ turns_of n t
  unfolding turns_of
  same_turns zero s t e = rw e refl
  same_turns (suc n) s t e = rw e refl

  halted_turns : (n : ℕ) (s : State) (t : Turn) (halt : Halt) (rest : Job) → settled s ≡ t → t.happened ≡ Halted halt → turns_of n s ≡ joined t.happened t.state rest
  unfolding turns_of
  halted_turns zero s t halt rest e h = rw e (rw h refl)
  halted_turns (suc n) s t halt rest e h = rw e (rw h refl)

  module _ (s : State) (within : s.steps ≤ s.bound) where
    abbrev Goal : Type 0
    Goal = job_of s ≡ joined (turn_of s).happened (turn_of s).state (job_of (turn_of s).state)

    free_by : counts (next_turn s) ≡ false → ((turn_of s).happened ≡ Turned) ⊎ ((halt : Halt) × ((turn_of s).happened ≡ Halted halt)) → Goal
    free_by k (inl h) =
        let keeps = turn_keeps s k in
        let steps = keeps.0 in let bound = keeps.1 in
        let left : steps_left s ≡ steps_left (turn_of s).state = omega (arith, steps, bound) in
        rw h (ap (λ n. turns_of n s) left ∙ same_turns (steps_left (turn_of s).state) s (turn_of s).state (free_settled s k h))
    free_by k (inr h) = halted_turns (steps_left s) s (turn_of s) h.0 (job_of (turn_of s).state) (halt_settled s h.0 k h.1) h.1

    next_left : (n : ℕ) → suc n ≡ steps_left s → (turn_of s).state.steps ≡ s.steps + 1 → (turn_of s).state.bound ≡ s.bound → n ≡ steps_left (turn_of s).state
    next_left n left k b = omega (arith, left, k, b)

    one_more : (n : ℕ) → suc n ≡ steps_left s → counts (next_turn s) ≡ true → (h : Happened) → (turn_of s).happened ≡ h
        → joined (turn_of s).happened (turn_of s).state (turns_of n (turn_of s).state) ≡ joined (turn_of s).happened (turn_of s).state (job_of (turn_of s).state)
    one_more n left k Turned e =
        let c = turn_counts s k (ap goes_on e) in
        rw e (ap (λ m. turns_of m (turn_of s).state) (next_left n left c.0 c.1))
    one_more n left k (Said line) e =
        let c = turn_counts s k (ap goes_on e) in
        rw e (ap (λ m. said_before line (turns_of m (turn_of s).state)) (next_left n left c.0 c.1))
    one_more n left k (Left value steps) e = rw e refl
    one_more n left k (Trapped cause steps) e = rw e refl
    one_more n left k (Reset kind status) e = rw e refl
    one_more n left k (Halted halt) e = rw e refl

    abbrev bound_job : Bool → Job
    bound_job b = if b then record { lines = []; end = ends.Trapped causes.Bound s.steps; state = record s { firmware = call_over s.firmware } } else record { lines = []; end = ends.Halted (bound_halt s.firmware); state = s }

    bound_joins : (rest : Job) (b : Bool) → bound_job b ≡ joined (stopped_by (bound_halt s.firmware) s b).happened (stopped_by (bound_halt s.firmware) s b).state rest
    bound_joins rest true = refl
    bound_joins rest false = refl

    counted_by : (n : ℕ) → n ≡ steps_left s → counts (next_turn s) ≡ true → turns_of n s ≡ joined (turn_of s).happened (turn_of s).state (job_of (turn_of s).state)
    unfolding turns_of
    counted_by zero left k =
        let same : s.steps ≡ s.bound = omega (arith, left, within) in
        let last = last_turn s k same in
        rw (counted_settled s k) (rw last (bound_joins _ (in_call s.firmware)))
    counted_by (suc n) left k = rw (counted_settled s k) (one_more n left k (turn_of s).happened refl)

    job_by : (b : Bool) → counts (next_turn s) ≡ b → Goal
    job_by true k = counted_by (steps_left s) refl k
    job_by false k = free_by k (turn_happens s k)

  pub jobs_are_turns : JobsAreTurns
  jobs_are_turns s within = job_by s within (counts (next_turn s)) refl
