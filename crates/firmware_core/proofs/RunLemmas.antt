-- Few turns count no step, and a job ends.
use Rattle.std.proofs.Common.{◌≡◌, ◌⊎◌, inl, inr, ℕ, zero, suc, ◌≤◌, ◌<◌, ◌-◌, Bool, true, false, List, [], ◌∷◌, length, Option, Some, None, refl, sym, ap, ◌∙◌, arith}
use Rattle.std.specs.List.{filter}
use Rattle.event_queue.specs.declared.event.Entry.{Entry}
use Rattle.event_queue.specs.declared.event.Notify.{Notify}
use Rattle.event_queue.specs.Queue.{next_entry, after_next}
use Rattle.event_queue.specs.Timers.{has_moment}
use Rattle.event_queue.specs.Laws.{NextIsAbove, TicksOnce, IsAbove}
use Rattle.firmware_core.specs.declared.happened.Happened.TheVariants.{Turned, Halted}
use Rattle.firmware_core.specs.declared.happened.Halt.{Halt}
use Rattle.firmware_core.specs.Frames.{tick_is_due, with_tick, notice_of, without_notice, with_notification, is_full}
use Rattle.firmware_core.specs.Turns.{State, Turn, Next, Tick, Notice, Bound, Return, Slot, Instruction, with_firmware, next_turn, turn_of}
use Rattle.firmware_core.specs.Jobs.{counts, goes_on, steps_left}
use Rattle.firmware_core.specs.Runs.{FreeTurn, FreeTurns, is_tick, is_start, FreeTurnsAreFew, Ends, JobsEnd}
use Rattle.firmware_core.proofs.TurnLemmas.{Comes, Ticks, Notices, Neither, comes, none_behind, counted_counts, next_is_tick, next_is_notice, next_is_counted, turn_is, full_turn, turn_counts, turn_keeps, turn_happens, counts_below}
use Rattle.firmware_core.proofs.JobLemmas.{need, need_falls}
use Rattle.firmware_core.proofs.SilentLemmas.{steps_of, within_by}

-- ---- what comes next, and what it leads to

module _ (s : State) where
  due_by : Comes s → next_turn s ≡ Tick → tick_is_due s.firmware ≡ true
  due_by (Ticks tick) e = tick
  due_by (Notices n quiet notice) e = let k : Notice n ≡ Tick = sym (next_is_notice s n quiet notice) ∙ e in let bad : ⊥ = cc in absurd bad
  due_by (Neither quiet none) e = let k : counts Tick ≡ true = ap counts (sym e ∙ next_is_counted s quiet none) ∙ counted_counts s in let bad : ⊥ = cc in absurd bad

  is_due : next_turn s ≡ Tick → tick_is_due s.firmware ≡ true
  is_due e = due_by (comes s) e

  notice_by : (n : Notify) → Comes s → next_turn s ≡ Notice n → (tick_is_due s.firmware ≡ false) × (notice_of s.firmware ≡ Some n)
  notice_by n (Ticks tick) e = let k : Tick ≡ Notice n = sym (next_is_tick s tick) ∙ e in let bad : ⊥ = cc in absurd bad
  notice_by n (Notices m quiet notice) e = let k : Notice m ≡ Notice n = sym (next_is_notice s m quiet notice) ∙ e in let same : m ≡ n = cc in (quiet, notice ∙ ap Some same)
  notice_by n (Neither quiet none) e = let k : counts (Notice n) ≡ true = ap counts (sym e ∙ next_is_counted s quiet none) ∙ counted_counts s in let bad : ⊥ = cc in absurd bad

  notice_is : (n : Notify) → next_turn s ≡ Notice n → (tick_is_due s.firmware ≡ false) × (notice_of s.firmware ≡ Some n)
  notice_is n e = notice_by n (comes s) e

  behind_tick : next_turn s ≡ Tick → (turn_of s).state ≡ with_firmware s (with_tick s.firmware)
  behind_tick e = ap (λ (t : Turn). t.state) (turn_is s Tick e)

  start_by : (n : Notify) (b : Bool) → (full_turn s n b).happened ≡ Turned → (full_turn s n b).state ≡ with_firmware s (with_notification (without_notice s.firmware) n)
  start_by n true h = let bad : ⊥ = cc in absurd bad
  start_by n false h = refl

  behind_start : (n : Notify) → next_turn s ≡ Notice n → (turn_of s).happened ≡ Turned → (turn_of s).state ≡ with_firmware s (with_notification (without_notice s.firmware) n)
  behind_start n e h =
      let is = turn_is s (Notice n) e in
      ap (λ (t : Turn). t.state) is ∙ start_by n (is_full s.firmware) (ap (λ (t : Turn). t.happened) (sym is) ∙ h)

  same_tick : (o : Option Entry) → tick_is_due (record s.firmware { events = after_next s.firmware.events o }) ≡ tick_is_due s.firmware
  unfolding after_next has_moment
  same_tick None = refl
  same_tick (Some entry) = refl

  quiet_start : (n : Notify) → tick_is_due (with_notification (without_notice s.firmware) n) ≡ tick_is_due s.firmware
  unfolding with_notification
  quiet_start n = same_tick (next_entry s.firmware.events.queue s.firmware.hart.tpl)

  -- the start of a notification leaves no tick due, and the level is that of its event
  still_quiet : (n : Notify) → next_turn s ≡ Notice n → (turn_of s).happened ≡ Turned → tick_is_due (turn_of s).state.firmware ≡ false
  still_quiet n e h = ap (λ (t : State). tick_is_due t.firmware) (behind_start n e h) ∙ quiet_start n ∙ (notice_is n e).0

  start_level : (n : Notify) → (with_notification (without_notice s.firmware) n).hart.tpl ≡ n.tpl
  unfolding with_notification
  start_level n = refl

  level_behind : (n : Notify) → next_turn s ≡ Notice n → (turn_of s).happened ≡ Turned → (turn_of s).state.firmware.hart.tpl ≡ n.tpl
  level_behind n e h = ap (λ (t : State). t.firmware.hart.tpl) (behind_start n e h) ∙ start_level n

-- ---- few turns count no step

no_tick : (turns : List Next) (old new : State) → tick_is_due old.firmware ≡ false → FreeTurns turns old new → length (filter is_tick turns) ≡ 0
no_tick [] old new quiet path = refl
no_tick (Tick ∷ more) old new quiet path = let k : false ≡ true = sym quiet ∙ is_due old path.0.is in let bad : ⊥ = cc in absurd bad
no_tick (Notice n ∷ more) old new quiet path = no_tick more (turn_of old).state new (still_quiet old n path.0.is path.0.turned) path.1
no_tick (Bound ∷ more) old new quiet path = let k = path.0.free in let bad : ⊥ = cc in absurd bad
no_tick (Return ∷ more) old new quiet path = let k = path.0.free in let bad : ⊥ = cc in absurd bad
no_tick (Slot slot ∷ more) old new quiet path = let k = path.0.free in let bad : ⊥ = cc in absurd bad
no_tick (Instruction ∷ more) old new quiet path = let k = path.0.free in let bad : ⊥ = cc in absurd bad

module _ (above : NextIsAbove) (once : TicksOnce) where
  quiet_behind : (s : State) → next_turn s ≡ Tick → tick_is_due (turn_of s).state.firmware ≡ false
  quiet_behind s e = ap (λ (t : State). tick_is_due t.firmware) (behind_tick s e) ∙ none_behind once s.firmware (is_due s e)

  one_tick : (turns : List Next) (old new : State) → FreeTurns turns old new → length (filter is_tick turns) ≤ 1
  one_tick [] old new path = omega arith
  one_tick (Tick ∷ more) old new path = let none = no_tick more (turn_of old).state new (quiet_behind old path.0.is) path.1 in omega (arith, none)
  one_tick (Notice n ∷ more) old new path = one_tick more (turn_of old).state new path.1
  one_tick (Bound ∷ more) old new path = let k = path.0.free in let bad : ⊥ = cc in absurd bad
  one_tick (Return ∷ more) old new path = let k = path.0.free in let bad : ⊥ = cc in absurd bad
  one_tick (Slot slot ∷ more) old new path = let k = path.0.free in let bad : ⊥ = cc in absurd bad
  one_tick (Instruction ∷ more) old new path = let k = path.0.free in let bad : ⊥ = cc in absurd bad

  is_above : (s : State) (n : Notify) → FreeTurn (Notice n) s → IsAbove s.firmware.hart.tpl n
  is_above s n turn = above s.firmware.events turn.whole s.firmware.hart.tpl n (notice_is s n turn.is).1

  -- each start raises the level, up to 30
  starts_above : (turns : List Next) (old new : State) → FreeTurns turns old new → length (filter is_start turns) ≤ 30 - old.firmware.hart.tpl
  starts_above [] old new path = omega arith
  starts_above (Tick ∷ more) old new path =
      let rest = starts_above more (turn_of old).state new path.1 in
      let level : (turn_of old).state.firmware.hart.tpl ≡ old.firmware.hart.tpl = ap (λ (t : State). t.firmware.hart.tpl) (behind_tick old path.0.is) in
      omega (arith, rest, level)
  starts_above (Notice n ∷ more) old new path =
      let rest = starts_above more (turn_of old).state new path.1 in
      let level = level_behind old n path.0.is path.0.turned in
      let is = is_above old n path.0 in
      let up = is.above in let most = is.most in
      omega (arith, rest, level, up, most)
  starts_above (Bound ∷ more) old new path = let k = path.0.free in let bad : ⊥ = cc in absurd bad
  starts_above (Return ∷ more) old new path = let k = path.0.free in let bad : ⊥ = cc in absurd bad
  starts_above (Slot slot ∷ more) old new path = let k = path.0.free in let bad : ⊥ = cc in absurd bad
  starts_above (Instruction ∷ more) old new path = let k = path.0.free in let bad : ⊥ = cc in absurd bad

  -- the first is of level 5 at least
  few_starts : (turns : List Next) (old new : State) → FreeTurns turns old new → length (filter is_start turns) ≤ 26
  few_starts [] old new path = omega arith
  few_starts (Tick ∷ more) old new path = few_starts more (turn_of old).state new path.1
  few_starts (Notice n ∷ more) old new path =
      let rest = starts_above more (turn_of old).state new path.1 in
      let level = level_behind old n path.0.is path.0.turned in
      let is = is_above old n path.0 in
      let least = is.least in let most = is.most in
      omega (arith, rest, level, least, most)
  few_starts (Bound ∷ more) old new path = let k = path.0.free in let bad : ⊥ = cc in absurd bad
  few_starts (Return ∷ more) old new path = let k = path.0.free in let bad : ⊥ = cc in absurd bad
  few_starts (Slot slot ∷ more) old new path = let k = path.0.free in let bad : ⊥ = cc in absurd bad
  few_starts (Instruction ∷ more) old new path = let k = path.0.free in let bad : ⊥ = cc in absurd bad

  pub free_turns_are_few : FreeTurnsAreFew
  free_turns_are_few turns old new path = record { ticks = one_tick turns old new path; starts = few_starts turns old new path }

-- ---- a job ends

ends_now : (s : State) → goes_on (turn_of s).happened ≡ false → Ends s
ends_now s h = record { turns = zero; last = s; going = refl; end = h }

one_more : (s : State) → goes_on (turn_of s).happened ≡ true → Ends (turn_of s).state → Ends s
one_more s h rest = record { turns = suc rest.turns; last = rest.last; going = (h, rest.going); end = rest.end }

module _ (once : TicksOnce) (n : ℕ) (fewer : (t : State) → t.steps ≤ t.bound → steps_left t < n → Ends t) where
  module _ (s : State) (within : s.steps ≤ s.bound) (left : steps_left s ≤ n) (again : (t : State) → t.steps ≤ t.bound → steps_left t ≤ n → need t < need s → Ends t) where
    free_by : goes_on (turn_of s).happened ≡ true → counts (next_turn s) ≡ false → ((turn_of s).happened ≡ Turned) ⊎ ((halt : Halt) × ((turn_of s).happened ≡ Halted halt)) → Ends s
    free_by h k (inl e) =
        let keeps = turn_keeps s k in
        let steps = keeps.0 in let bound = keeps.1 in
        one_more s h (again (turn_of s).state (within_by s within (steps_of s within h)) (omega (arith, left, steps, bound)) (need_falls once s k e))
    free_by h k (inr e) = let bad1 : goes_on (Halted e.0) ≡ true = ap goes_on (sym e.1) ∙ h in let bad : ⊥ = cc in absurd bad

    by_counts : goes_on (turn_of s).happened ≡ true → (b : Bool) → counts (next_turn s) ≡ b → Ends s
    by_counts h true k =
        let c = turn_counts s k h in
        let steps = c.0 in let bound = c.1 in
        let below = counts_below s within k h in
        one_more s h (fewer (turn_of s).state (within_by s within (steps_of s within h)) (omega (arith, left, steps, bound, below)))
    by_counts h false k = free_by h k (turn_happens s k)

    by_end : (b : Bool) → goes_on (turn_of s).happened ≡ b → Ends s
    by_end true h = by_counts h (counts (next_turn s)) refl
    by_end false h = ends_now s h

    ends_next : Ends s
    ends_next = by_end (goes_on (turn_of s).happened) refl

  ends_in : (m : ℕ) (s : State) → s.steps ≤ s.bound → steps_left s ≤ n → need s ≤ m → Ends s
  ends_in zero s within left room = ends_next s within left (λ t w l f. (let bad : ⊥ = omega (arith, f, room) in absurd bad))
  ends_in (suc m) s within left room = ends_next s within left (λ t w l f. ends_in m t w l (omega (arith, f, room)))

ends_by : TicksOnce → (n : ℕ) (s : State) → s.steps ≤ s.bound → steps_left s ≤ n → Ends s
ends_by once zero s within left = ends_in once zero (λ t w f. (let bad : ⊥ = omega (arith, f) in absurd bad)) (need s) s within left (omega arith)
ends_by once (suc n) s within left = ends_in once (suc n) (λ t w f. ends_by once n t w (omega (arith, f))) (need s) s within left (omega arith)

pub jobs_end : TicksOnce → JobsEnd
jobs_end once s within = ends_by once (steps_left s) s within (omega arith)
