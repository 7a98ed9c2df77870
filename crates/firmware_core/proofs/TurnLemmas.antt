-- Turns that leave the parts, and what a turn counts.
use Rattle.std.proofs.Common.{◌≡◌, ◌≢◌, ◌⊎◌, inl, inr, ℕ, zero, suc, ◌+◌, ◌≤◌, ◌<◌, ◌-◌, ◌==◌, Bool, true, false, List, Option, Some, None, refl, sym, ap, ◌∙◌, arith}
use Rattle.std.specs.Prelude.{◌&&◌, not, nat_le, Result, Ok, Err, IfOk, if◌then◌else◌}
use Rattle.std.specs.Option.{is_some}
use Rattle.std.proofs.lemmas.Bool.Decides.{nat_tests}
use Rattle.rv_step.specs.declared.ends.StepEnd.{StepEnd}
use Rattle.rv_step.specs.declared.ends.StepEnd.TheVariants as ends
use Rattle.rv_step.specs.declared.ends.Trap.{Trap}
use Rattle.rv_step.specs.Exec.{Outcome, Went, Stored, Stopped, step_of}
use Rattle.rv_step.specs.Exec as exec
use Rattle.guest_memory.specs.Pages.{rights_at}
use Rattle.record_text.specs.declared.cause.Cause.TheVariants as causes
use Rattle.address_view.specs.Windows.{see}
use Rattle.address_view.specs.Seen.{view_allows}
use Rattle.address_view.specs.Stored.{lacks_seen}
use Rattle.virtual_map.specs.States.{Runtime}
use Rattle.virtual_map.specs.Instructions.{Carried, carried, comes_to, seen_by}
use Rattle.firmware_core.specs.declared.happened.Happened.{Happened}
use Rattle.firmware_core.specs.declared.happened.Happened.TheVariants.{Turned, Trapped, Halted}
use Rattle.firmware_core.specs.declared.happened.Halt.{Halt}
use Rattle.event_queue.specs.declared.event.Entry.{Entry}
use Rattle.event_queue.specs.declared.event.Event.{Event}
use Rattle.event_queue.specs.declared.event.Notify.{Notify}
use Rattle.event_queue.specs.Queue.{EventList, notified}
use Rattle.event_queue.specs.Timers.{has_moment, moment_ahead, ticked, after_tick}
use Rattle.event_queue.specs.Laws.{TicksOnce}
use Rattle.firmware_core.specs.Views.{IsNotice, NoticeTurned}
use Rattle.firmware_core.specs.Frames.{tick_is_due, with_tick, notice_of, without_notice, is_full, with_notification, in_call, call_over, Quiet}
use Rattle.firmware_core.specs.declared.conclusion.Conclusion.{Conclusion}
use Rattle.firmware_core.specs.declared.conclusion.Conclusion.TheVariants.{Answers, Prints, Continues, Leaves, Resets, Halts}
use Rattle.firmware_core.specs.Parts.{Parts}
use Rattle.firmware_core.specs.Turns.{State, Turn, Next, Tick, Notice, Bound, Return, Slot, Instruction, with_firmware, with_carried, Instructed, instructed, by_slot, is_returning, slot_at, counted, carried_out, service_turn, instruction_turn, counted_next, next_turn, by_next, turn_of, halted, ends_call, stopped, bound_halt, halt_of}
use Rattle.firmware_core.specs.Turns as turns
use Rattle.firmware_core.specs.Jobs.{counts, goes_on}

-- ---- an instruction that isn't carried out leaves the parts

module _ (x : List ℕ) (pc : ℕ) (r : Runtime) where
  abbrev pub Kept : Carried → Type 0
  Kept c = (c.end ≢ ends.Next) → c ≡ record { end = c.end; x = x; pc = pc; runtime = r }

  store_kept : (at width value : ℕ) (to : exec.State) (b : Bool) → lacks_seen (see r.view) r.memory at width ≡ b → Kept (comes_to x pc r (Stored at width value to))
  store_kept at width value to true e h = rw e refl
  store_kept at width value to false e h = absurd (h (rw e refl))

  outcome_kept : (o : Outcome) → Kept (comes_to x pc r o)
  outcome_kept (Went to) h = absurd (h refl)
  outcome_kept (Stored at width value to) h = store_kept at width value to _ refl h
  outcome_kept (Stopped trap) h = refl

pub left_alone : (f : Parts) → (instructed f).end ≢ ends.Next → (instructed f).firmware ≡ f
unfolding instructed carried
left_alone f h = ap (with_carried f) (outcome_kept f.hart.x f.hart.pc f.runtime (step_of (view_allows (see f.runtime.view) (rights_at f.runtime.memory)) (seen_by f.hart.x f.hart.pc f.runtime)) h)

-- a halt ends the call or the run
abbrev pub stopped_by : Halt → State → Bool → Turn
stopped_by halt s b = if b then record { happened = Trapped halt.cause s.steps; state = record s { firmware = call_over s.firmware } } else record { happened = Halted halt; state = s }

halt_ends : (halt : Halt) (s : State) (b : Bool) → goes_on (stopped_by halt s b).happened ≡ true → ⊥
halt_ends halt s true h = cc
halt_ends halt s false h = cc

stop_ends : (halt : Halt) (s : State) → goes_on (stopped halt s).happened ≡ true → ⊥
stop_ends halt s h = halt_ends halt s (ends_call halt.cause && in_call s.firmware) h

-- ---- ticks

also : (a b : Bool) → (a && b) ≡ true → b ≡ true
also true b h = h
also false b h = let bad : ⊥ = cc in absurd bad

neither : (a b : Bool) → b ≡ false → (a && b) ≡ false
neither true b h = h
neither false b h = refl

-- where a tick is due, there is a moment
pub due_moment : (f : Parts) → tick_is_due f ≡ true → has_moment f.events f.time ≡ true
due_moment f h = also (not f.runtime.gone) (has_moment f.events f.time) h

-- while boot services last, there is none where no tick is due
lasting : (f : Parts) → f.runtime.gone ≡ false → tick_is_due f ≡ false → has_moment f.events f.time ≡ false
lasting f here h = rw here at h

pub no_moment : (f : Parts) → has_moment f.events f.time ≡ false → tick_is_due f ≡ false
no_moment f h = neither (not f.runtime.gone) (has_moment f.events f.time) h

-- once they are over, none is due
pub gone_quiet : (f : Parts) → f.runtime.gone ≡ true → tick_is_due f ≡ false
gone_quiet f over = rw over refl

ticked_is : (e : EventList) (t : ℕ) → has_moment e t ≡ true → after_tick e t ≡ ticked e t
unfolding after_tick
ticked_is e t h = rw h refl

-- behind a tick none is due
pub none_behind : TicksOnce → (f : Parts) → tick_is_due f ≡ true → tick_is_due (with_tick f) ≡ false
none_behind once f h =
    let is = ticked_is f.events f.time (due_moment f h) in
    no_moment (with_tick f) (ap (λ (e : EventList). has_moment e f.time) (sym is) ∙ once f.events f.time)

-- ---- which turn comes

pub next_is_tick : (s : State) → tick_is_due s.firmware ≡ true → next_turn s ≡ Tick
unfolding next_turn
next_is_tick s h = rw h refl

pub next_is_notice : (s : State) (n : Notify) → tick_is_due s.firmware ≡ false → notice_of s.firmware ≡ Some n → next_turn s ≡ Notice n
unfolding next_turn
next_is_notice s n h e = rw (h, e) refl

pub next_is_counted : (s : State) → tick_is_due s.firmware ≡ false → notice_of s.firmware ≡ None → next_turn s ≡ counted_next s
unfolding next_turn
next_is_counted s h e = rw (h, e) refl

-- a tick, a notification, or neither
pub data Comes (s : State) : Type 0 where
  Ticks : (tick : tick_is_due s.firmware ≡ true) → Comes s
  Notices : (notify : Notify) (quiet : tick_is_due s.firmware ≡ false) (notice : notice_of s.firmware ≡ Some notify) → Comes s
  Neither : (quiet : tick_is_due s.firmware ≡ false) (none : notice_of s.firmware ≡ None) → Comes s

pub comes : (s : State) → Comes s
comes s = by_tick (tick_is_due s.firmware) refl
  where
    by_notice_of : tick_is_due s.firmware ≡ false → (o : Option Notify) → notice_of s.firmware ≡ o → Comes s
    by_notice_of quiet None e = Neither quiet e
    by_notice_of quiet (Some n) e = Notices n quiet e

    by_tick : (b : Bool) → tick_is_due s.firmware ≡ b → Comes s
    by_tick true e = Ticks e
    by_tick false e = by_notice_of e (notice_of s.firmware) refl

slots_count : (o : Option ℕ) → counts (by_slot o) ≡ true
slots_count None = refl
slots_count (Some slot) = refl

pub counted_counts : (s : State) → counts (counted_next s) ≡ true
counted_counts s = by (s.steps == s.bound)
  where
    by_return : (b : Bool) → counts (if b then Return else by_slot (slot_at s.firmware)) ≡ true
    by_return true = refl
    by_return false = slots_count (slot_at s.firmware)

    by : (b : Bool) → counts (if b then Bound else (if is_returning s.firmware then Return else by_slot (slot_at s.firmware))) ≡ true
    by true = refl
    by false = by_return (is_returning s.firmware)

counted_by : (s : State) → Comes s → counts (next_turn s) ≡ true → next_turn s ≡ counted_next s
counted_by s (Ticks tick) h = let e : counts Tick ≡ true = ap counts (sym (next_is_tick s tick)) ∙ h in let bad : ⊥ = cc in absurd bad
counted_by s (Notices n quiet notice) h = let e : counts (Notice n) ≡ true = ap counts (sym (next_is_notice s n quiet notice)) ∙ h in let bad : ⊥ = cc in absurd bad
counted_by s (Neither quiet none) h = next_is_counted s quiet none

-- a turn that counts is none of the others
pub counted_is : (s : State) → counts (next_turn s) ≡ true → next_turn s ≡ counted_next s
counted_is s h = counted_by s (comes s) h

pub turn_is : (s : State) (n : Next) → next_turn s ≡ n → turn_of s ≡ by_next n s
unfolding turn_of
turn_is s n e = rw e refl

pub notified_some : (events : List Event) (o : Option Entry) → is_some (notified events o) ≡ is_some o
unfolding notified
notified_some events None = refl
notified_some events (Some entry) = refl

-- ---- the turn that is made

pub tick_now : (s : State) (f : Parts) → true ≡ tick_is_due s.firmware → f ≡ with_tick s.firmware → record { happened = Turned; state = with_firmware s f } ≡ turn_of s
tick_now s f due is = ap (λ (g : Parts). record { happened = Turned; state = with_firmware s g }) is ∙ sym (turn_is s Tick (next_is_tick s (sym due)))

notice_by : (s new : State) (happened : Happened) → tick_is_due s.firmware ≡ false → (o : Option Notify) → notice_of s.firmware ≡ o → IsNotice o happened s new → record { happened = happened; state = new } ≡ turn_of s
notice_by s new happened quiet None e h = absurd h
notice_by s new happened quiet (Some n) e h = h ∙ sym (turn_is s (Notice n) (next_is_notice s n quiet e))

pub notice_now : (s new : State) (happened : Happened) → false ≡ tick_is_due s.firmware → NoticeTurned (Some happened) s new → record { happened = happened; state = new } ≡ turn_of s
notice_now s new happened quiet h = notice_by s new happened (sym quiet) (notice_of s.firmware) refl h

pub quiet_one : (f : Parts) → false ≡ tick_is_due f → notice_of f ≡ None → Quiet f 1
unfolding has_moment
quiet_one f quiet none =
    record {
      notice = none;
      tick = λ here. (
          let later : nat_le (moment_ahead f.events) f.time ≡ false = lasting f here (sym quiet) in
          let above : f.time < moment_ahead f.events = grind (arith, nat_tests) in
          omega (arith, above));
    }

pub quiet_now : (s mid : State) → false ≡ tick_is_due s.firmware → NoticeTurned None s mid → Quiet mid.firmware 1
quiet_now s mid quiet h = let same = h.1 in rw same (quiet_one s.firmware quiet h.0)

counted_now_by : (s mid : State) (t : Turn) → false ≡ tick_is_due s.firmware → NoticeTurned None s mid → t ≡ by_next (counted_next mid) mid → t ≡ turn_of s
counted_now_by s mid t quiet h e = e ∙ ap (λ (x : State). by_next (counted_next x) x) h.1 ∙ sym (turn_is s (counted_next s) (next_is_counted s (sym quiet) h.0))

pub counted_now : {E : Type 0} (result : Result Happened E) (s mid new : State) → false ≡ tick_is_due s.firmware → NoticeTurned None s mid
    → IfOk result (λ h. record { happened = h; state = new } ≡ by_next (counted_next mid) mid) → IfOk result (λ h. record { happened = h; state = new } ≡ turn_of s)
counted_now (Ok happened) s mid new quiet h e = counted_now_by s mid (record { happened = happened; state = new }) quiet h e
counted_now (Err x) s mid new quiet h e = tt

-- ---- what a turn counts

-- the start of a notification, where 64 frames stand or not
abbrev pub full_turn : State → Notify → Bool → Turn
full_turn s n b = if b then record { happened = halted causes.Depth s.firmware.hart.pc 0; state = s } else record { happened = Turned; state = with_firmware s (with_notification (without_notice s.firmware) n) }

module _ (s : State) where
  abbrev pub Counts : Turn → Type 0
  Counts t = (t.state.steps ≡ s.steps + 1) × (t.state.bound ≡ s.bound)

  abbrev pub Keeps : Turn → Type 0
  Keeps t = (t.state.steps ≡ s.steps) × (t.state.bound ≡ s.bound)

  service_counts : (slot pc : ℕ) (c : Conclusion) (f : Parts) → goes_on (turns.comes_to slot pc s c f).happened ≡ true → Counts (turns.comes_to slot pc s c f)
  service_counts slot pc (Answers a0) f h = (refl, refl)
  service_counts slot pc (Prints text a0) f h = (refl, refl)
  service_counts slot pc Continues f h = (refl, refl)
  service_counts slot pc (Leaves value) f h = let bad : ⊥ = cc in absurd bad
  service_counts slot pc (Resets kind status) f h = let bad : ⊥ = cc in absurd bad
  service_counts slot pc (Halts cause) f h = let bad : ⊥ = cc in absurd bad

  instruction_counts : (pc : ℕ) (end : StepEnd) (f : Parts) → goes_on (carried_out pc s end f).happened ≡ true → Counts (carried_out pc s end f)
  instruction_counts pc ends.Next f h = (refl, refl)
  instruction_counts pc (ends.Trap trap) f h = absurd (stop_ends (halt_of trap pc) (record s { firmware = f }) h)
  instruction_counts pc ends.Frames f h = let bad : ⊥ = cc in absurd bad
  instruction_counts pc ends.Memory f h = let bad : ⊥ = cc in absurd bad

  step_counts : (n : Next) → counts n ≡ true → goes_on (by_next n s).happened ≡ true → Counts (by_next n s)
  unfolding service_turn instruction_turn
  step_counts Tick k h = let bad : ⊥ = cc in absurd bad
  step_counts (Notice notify) k h = let bad : ⊥ = cc in absurd bad
  step_counts Bound k h = absurd (stop_ends (bound_halt s.firmware) s h)
  step_counts Return k h = let bad : ⊥ = cc in absurd bad
  step_counts (Slot slot) k h = service_counts _ _ _ _ h
  step_counts Instruction k h = instruction_counts s.firmware.hart.pc (instructed s.firmware).end (instructed s.firmware).firmware h

  -- a turn that counts, and that the job goes on behind, counts a step
  pub turn_counts : counts (next_turn s) ≡ true → goes_on (turn_of s).happened ≡ true → Counts (turn_of s)
  unfolding turn_of
  turn_counts k h = step_counts (next_turn s) k h

  notice_keeps : (n : Notify) (b : Bool) → Keeps (full_turn s n b)
  notice_keeps n true = (refl, refl)
  notice_keeps n false = (refl, refl)

  free_keeps : (n : Next) → counts n ≡ false → Keeps (by_next n s)
  free_keeps Tick k = (refl, refl)
  free_keeps (Notice notify) k = notice_keeps notify (is_full s.firmware)
  free_keeps Bound k = let bad : ⊥ = cc in absurd bad
  free_keeps Return k = let bad : ⊥ = cc in absurd bad
  free_keeps (Slot slot) k = let bad : ⊥ = cc in absurd bad
  free_keeps Instruction k = let bad : ⊥ = cc in absurd bad

  -- a tick and the start of a notification count none
  pub turn_keeps : counts (next_turn s) ≡ false → Keeps (turn_of s)
  unfolding turn_of
  turn_keeps k = free_keeps (next_turn s) k

  abbrev IsSilentOrHalt : Happened → Type 0
  IsSilentOrHalt happened = (happened ≡ Turned) ⊎ ((halt : Halt) × (happened ≡ Halted halt))

  notice_happens : (n : Notify) (b : Bool) → IsSilentOrHalt (full_turn s n b).happened
  notice_happens n true = inr (_, refl)
  notice_happens n false = inl refl

  free_happens : (n : Next) → counts n ≡ false → IsSilentOrHalt (by_next n s).happened
  free_happens Tick k = inl refl
  free_happens (Notice notify) k = notice_happens notify (is_full s.firmware)
  free_happens Bound k = let bad : ⊥ = cc in absurd bad
  free_happens Return k = let bad : ⊥ = cc in absurd bad
  free_happens (Slot slot) k = let bad : ⊥ = cc in absurd bad
  free_happens Instruction k = let bad : ⊥ = cc in absurd bad

  -- such a turn says nothing, or the run halts
  pub turn_happens : counts (next_turn s) ≡ false → IsSilentOrHalt (turn_of s).happened
  unfolding turn_of
  turn_happens k = free_happens (next_turn s) k

  bound_is : s.steps ≡ s.bound → counted_next s ≡ Bound
  bound_is h = let is : (s.steps == s.bound) ≡ true = grind (arith, nat_tests) in rw is refl

  -- where no step is left, the bound ends the job
  pub last_turn : counts (next_turn s) ≡ true → s.steps ≡ s.bound → turn_of s ≡ stopped (bound_halt s.firmware) s
  last_turn k h = turn_is s Bound (counted_is s k ∙ bound_is h)

  below_by : s.steps ≤ s.bound → counts (next_turn s) ≡ true → goes_on (turn_of s).happened ≡ true → (n : ℕ) → n ≡ s.bound - s.steps → s.steps < s.bound
  below_by within k h zero e =
      let same : s.steps ≡ s.bound = omega arith in
      let bad : goes_on (stopped (bound_halt s.firmware) s).happened ≡ true = ap (λ (t : Turn). goes_on t.happened) (sym (last_turn k same)) ∙ h in
      absurd (stop_ends (bound_halt s.firmware) s bad)
  below_by within k h (suc n) e = omega arith

  -- a turn that counts a step comes before the bound
  pub counts_below : s.steps ≤ s.bound → counts (next_turn s) ≡ true → goes_on (turn_of s).happened ≡ true → s.steps < s.bound
  counts_below within k h = below_by within k h (s.bound - s.steps) refl

-- ---- an instruction in the turn

instructed_end : (f new : Parts) (end : StepEnd) → record { end = end; firmware = new } ≡ instructed f → (instructed f).end ≡ end
instructed_end f new end e = sym (ap (λ (i : Instructed). i.end) e)

-- an instruction that isn't carried out leaves the parts
pub not_carried : (f new : Parts) (end : StepEnd) → (end ≢ ends.Memory → record { end = end; firmware = new } ≡ instructed f) → end ≢ ends.Memory → end ≢ ends.Next → new ≡ f
not_carried f new end h memory next =
    let e = h memory in
    ap (λ (i : Instructed). i.firmware) e ∙ left_alone f (λ same. next (ap (λ (i : Instructed). i.end) e ∙ same))

-- what an instruction that ends so makes of the turn
pub plain_is : (s : State) (new : Parts) → record { end = ends.Next; firmware = new } ≡ instructed s.firmware → record { happened = Turned; state = counted s new } ≡ instruction_turn s
unfolding instruction_turn
plain_is s new e = let back = sym e in rw back refl

pub trap_is : (s : State) (new : Parts) (trap : Trap) → record { end = ends.Trap trap; firmware = new } ≡ instructed s.firmware → stopped (halt_of trap s.firmware.hart.pc) (record s { firmware = new }) ≡ instruction_turn s
unfolding instruction_turn
trap_is s new trap e = let back = sym e in rw back refl

pub frames_is : (s : State) (new : Parts) → record { end = ends.Frames; firmware = new } ≡ instructed s.firmware → record { happened = halted causes.Frames s.firmware.hart.pc 0; state = record s { firmware = new } } ≡ instruction_turn s
unfolding instruction_turn
frames_is s new e = let back = sym e in rw back refl

-- where no tick, no notification, no return, no slot and no bound comes, an instruction that is carried out is the turn
pub plain_turn : (s : State) (new : Parts) → tick_is_due s.firmware ≡ false → notice_of s.firmware ≡ None → s.steps < s.bound → is_returning s.firmware ≡ false → slot_at s.firmware ≡ None → record { end = ends.Next; firmware = new } ≡ instructed s.firmware
    → turn_of s ≡ record { happened = Turned; state = counted s new }
unfolding instruction_turn
plain_turn s new quiet nothing below here none e =
    let is : (s.steps == s.bound) ≡ false = grind (arith, nat_tests) in
    let comes_now : counted_next s ≡ Instruction = rw (is, here, none) refl in
    let back = sym e in
    turn_is s Instruction (next_is_counted s quiet nothing ∙ comes_now) ∙ rw back refl

pub trap_leaves : (f new : Parts) (end : StepEnd) (trap : Trap) → end ≡ ends.Trap trap → (end ≢ ends.Memory → record { end = end; firmware = new } ≡ instructed f) → new ≡ f
trap_leaves f new end trap is h = not_carried f new end h (λ e. let same : ends.Trap trap ≡ ends.Memory = sym is ∙ e in cc) (λ e. let same : ends.Trap trap ≡ ends.Next = sym is ∙ e in cc)

pub frames_leave : (f new : Parts) (end : StepEnd) → end ≡ ends.Frames → (end ≢ ends.Memory → record { end = end; firmware = new } ≡ instructed f) → new ≡ f
frames_leave f new end is h = not_carried f new end h (λ e. let same : ends.Frames ≡ ends.Memory = sym is ∙ e in cc) (λ e. let same : ends.Frames ≡ ends.Next = sym is ∙ e in cc)

pub next_is : (f new : Parts) → (ends.Next ≢ ends.Memory → record { end = ends.Next; firmware = new } ≡ instructed f) → record { end = ends.Next; firmware = new } ≡ instructed f
next_is f new h = h (λ (e : ends.Next ≡ ends.Memory). cc)

pub none_by : (o : Option ℕ) → false ≡ is_some o → o ≡ None
none_by None h = refl
none_by (Some x) h = let bad : ⊥ = cc in absurd bad
