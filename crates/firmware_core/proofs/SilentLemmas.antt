-- Turns that say nothing.
use Rattle.std.proofs.Common.{◌≡◌, ◌≢◌, ◌⊎◌, inl, inr, ℕ, zero, suc, ◌+◌, ◌≤◌, ◌<◌, ◌-◌, Bool, true, false, List, None, refl, sym, ap, subst, ◌∙◌, arith}
use Rattle.std.specs.Prelude.{nat_le, if◌then◌else◌}
use Rattle.std.proofs.lemmas.Bool.Decides.{nat_tests}
use Rattle.record_text.specs.declared.cause.Cause.TheVariants as causes
use Rattle.event_queue.specs.Queue.{EventList, next_entry, notified}
use Rattle.event_queue.specs.Timers.{has_moment, moment_ahead}
use Rattle.rv_step.specs.declared.ends.StepEnd.TheVariants as ends
use Rattle.rv_step.specs.declared.ends.Trap.{Trap}
use Rattle.rv_step.specs.Exec.{Outcome, Went, Stored, Stopped}
use Rattle.address_view.specs.Windows.{see}
use Rattle.address_view.specs.Stored.{lacks_seen}
use Rattle.virtual_map.specs.States.{Runtime}
use Rattle.virtual_map.specs.Instructions.{Carried, carried, comes_to, outcome_of}
use Rattle.firmware_core.specs.declared.happened.Halt.{Halt}
use Rattle.firmware_core.specs.declared.happened.Happened.{Happened}
use Rattle.firmware_core.specs.declared.happened.Happened.TheVariants.{Turned, Halted}
use Rattle.firmware_core.specs.Parts.{Parts}
use Rattle.firmware_core.specs.Frames.{tick_is_due, notice_of, Quiet}
use Rattle.firmware_core.specs.Turns.{State, Turn, next_turn, turn_of, instruction_turn, halted, stopped, halt_of, instructed, is_returning, slot_at, passed, counted}
use Rattle.firmware_core.specs.Jobs.{counts, joined, steps_left, job_of, JobsAreTurns, Silently, SilentlyTo, goes_on, Says}
use Rattle.firmware_core.specs.Views.{due, potential}
use Rattle.firmware_core.proofs.TurnLemmas.{no_moment, gone_quiet, turn_counts, turn_keeps, turn_happens, counts_below, plain_turn, plain_is, trap_is, frames_is}

-- ---- the steps of a turn that the job goes on behind

-- a step less is left, or as many as before and nothing was said
pub data Steps (s : State) : Type 0 where
  Free : (steps : (turn_of s).state.steps ≡ s.steps) (bound : (turn_of s).state.bound ≡ s.bound) (silent : (turn_of s).happened ≡ Turned) → Steps s
  One : (steps : (turn_of s).state.steps ≡ s.steps + 1) (bound : (turn_of s).state.bound ≡ s.bound) (below : s.steps < s.bound) → Steps s

module _ (s : State) (within : s.steps ≤ s.bound) (more : goes_on (turn_of s).happened ≡ true) where
  halts_not : counts (next_turn s) ≡ false → ((turn_of s).happened ≡ Turned) ⊎ ((halt : Halt) × ((turn_of s).happened ≡ Halted halt)) → Steps s
  halts_not k (inl h) = let keeps = turn_keeps s k in Free keeps.0 keeps.1 h
  halts_not k (inr h) = let e : goes_on (Halted h.0) ≡ true = ap goes_on (sym h.1) ∙ more in let bad : ⊥ = cc in absurd bad

  steps_by : (b : Bool) → counts (next_turn s) ≡ b → Steps s
  steps_by true k = let c = turn_counts s k more in One c.0 c.1 (counts_below s within k more)
  steps_by false k = halts_not k (turn_happens s k)

  pub steps_of : Steps s
  steps_of = steps_by (counts (next_turn s)) refl

pub within_by : (s : State) → s.steps ≤ s.bound → Steps s → (turn_of s).state.steps ≤ (turn_of s).state.bound
within_by s within (Free steps bound silent) = omega (arith, steps, bound, within)
within_by s within (One steps bound below) = omega (arith, steps, bound, below)

pub still_within : (s : State) → s.steps ≤ s.bound → (turn_of s).happened ≡ Turned → (turn_of s).state.steps ≤ (turn_of s).state.bound
still_within s within h = within_by s within (steps_of s within (ap goes_on h))

-- ---- silent turns, one after another

silent_job : JobsAreTurns → (n : ℕ) (s t : State) → s.steps ≤ s.bound → Silently n s t → (job_of s ≡ job_of t) × (t.steps ≤ t.bound) × (steps_left t ≤ steps_left s)
silent_job law zero s t within e = rw e (refl, within, omega arith)
silent_job law (suc n) s t within h =
    let rest = silent_job law n (turn_of s).state t (still_within s within h.0) h.1 in
    let one : job_of s ≡ job_of (turn_of s).state = law s within ∙ ap (λ (x : Happened). joined x (turn_of s).state (job_of (turn_of s).state)) h.0 in
    let left : steps_left (turn_of s).state ≤ steps_left s = fewer (steps_of s within (ap goes_on h.0)) in
    (one ∙ rest.0, rest.1, (let r = rest.2 in omega (arith, r, left)))
  where
    fewer : Steps s → steps_left (turn_of s).state ≤ steps_left s
    fewer (Free steps bound silent) = omega (arith, steps, bound)
    fewer (One steps bound below) = omega (arith, steps, bound)

add_silent : (n : ℕ) (s t : State) → Silently n s t → (turn_of t).happened ≡ Turned → Silently (suc n) s (turn_of t).state
add_silent zero s t e h = let e2 : (turn_of s).happened ≡ Turned = ap (λ (x : State). (turn_of x).happened) (sym e) ∙ h in (e2, ap (λ (x : State). (turn_of x).state) e)
add_silent (suc n) s t k h = (k.0, add_silent n (turn_of s).state t k.1 h)

pub silent_more : (s t : State) → SilentlyTo s t → (turn_of t).happened ≡ Turned → SilentlyTo s (turn_of t).state
silent_more s t k h = (suc k.0, add_silent k.0 s t k.1 h)

join_silent : (m n : ℕ) (s t u : State) → Silently m s t → Silently n t u → (k : ℕ) × Silently k s u
join_silent zero n s t u e h = (n, rw e at h)
join_silent (suc m) n s t u k h = let rest = join_silent m n (turn_of s).state t u k.1 h in (suc rest.0, (k.0, rest.1))

pub silent_then : (s t u : State) → SilentlyTo s t → SilentlyTo t u → SilentlyTo s u
silent_then s t u k h = join_silent k.0 h.0 s t u k.1 h.1

pub silent_at_first : (s : State) → SilentlyTo s s
silent_at_first s = (zero, refl)

-- ---- instructions in which neither a tick nor a notification comes

-- So far the machine said nothing. At first nothing has changed, and the first instruction is one turn.
pub record Silent (old now : State) (step end : ℕ) : Type 0 where
  pub silent : SilentlyTo old now
  pub at : now.steps ≡ step
  pub bound : now.bound ≡ old.bound
  pub last : end ≤ old.bound
  pub since : old.steps ≤ step
  pub up : old.steps < step → step ≤ end
  pub quiet : old.steps < end → Quiet old.firmware (end - old.steps)
  pub events : now.firmware.events ≡ old.firmware.events
  pub level : now.firmware.hart.tpl ≡ old.firmware.hart.tpl
  pub gone : now.firmware.runtime.gone ≡ old.firmware.runtime.gone
  pub time : now.firmware.time ≤ old.firmware.time + (step - old.steps)
  pub first : step ≡ old.steps → now ≡ old
  pub second : step ≡ old.steps + 1 → record { happened = Turned; state = now } ≡ instruction_turn old

-- an instruction leaves the events and the level, and takes a unit of time
same_events : (f new : Parts) → record { end = ends.Next; firmware = new } ≡ instructed f → (new.events ≡ f.events) × (new.hart.tpl ≡ f.hart.tpl) × (new.time ≡ f.time)
unfolding instructed
same_events f new e = let g = ap (λ i. i.firmware) e in (ap (λ (p : Parts). p.events) g, ap (λ (p : Parts). p.hart.tpl) g, ap (λ (p : Parts). p.time) g)

-- and it leaves whether boot services are over
abbrev carried_if : Bool → Carried → Carried → Carried
carried_if b one other = if b then one else other

gone_if : (one other : Carried) (gone : Bool) (b : Bool) → one.runtime.gone ≡ gone → other.runtime.gone ≡ gone → (carried_if b one other).runtime.gone ≡ gone
gone_if one other gone true h k = h
gone_if one other gone false h k = k

gone_by : (x : List ℕ) (pc : ℕ) (r : Runtime) (o : Outcome) → (comes_to x pc r o).runtime.gone ≡ r.gone
gone_by x pc r (Went to) = refl
gone_by x pc r (Stored at width value to) = gone_if _ _ r.gone (lacks_seen (see r.view) r.memory at width) refl refl
gone_by x pc r (Stopped trap) = refl

same_gone : (f new : Parts) → record { end = ends.Next; firmware = new } ≡ instructed f → new.runtime.gone ≡ f.runtime.gone
unfolding instructed carried
same_gone f new e = ap (λ i. i.firmware.runtime.gone) e ∙ gone_by f.hart.x f.hart.pc f.runtime (outcome_of f.hart.x f.hart.pc f.runtime)

module _ (old now : State) (step end : ℕ) (silent : Silent old now step end) (below : step < end) where
  pub steps_below : now.steps < now.bound
  steps_below = let at = silent.at in let bound = silent.bound in let last = silent.last in omega arith

  quiet_now : Quiet old.firmware (end - old.steps)
  quiet_now = let since = silent.since in silent.quiet (omega arith)

  no_notice : notice_of now.firmware ≡ None
  no_notice =
      ap (λ (e : EventList). notified e.events (next_entry e.queue now.firmware.hart.tpl)) silent.events
      ∙ ap (λ tpl. notified old.firmware.events.events (next_entry old.firmware.events.queue tpl)) silent.level ∙ quiet_now.notice

  before_tick : old.firmware.runtime.gone ≡ false → now.firmware.time < moment_ahead old.firmware.events
  before_tick here = let time = silent.time in let since = silent.since in let tick = quiet_now.tick here in omega (arith, time, since, tick, below)

  no_tick_by : (b : Bool) → old.firmware.runtime.gone ≡ b → tick_is_due now.firmware ≡ false
  unfolding has_moment
  no_tick_by true e = gone_quiet now.firmware (silent.gone ∙ e)
  no_tick_by false e =
      let b = before_tick e in
      let is : nat_le (moment_ahead old.firmware.events) now.firmware.time ≡ false = grind (arith, nat_tests) in
      no_moment now.firmware (ap (λ (e : EventList). nat_le (moment_ahead e) now.firmware.time) silent.events ∙ is)

  no_tick : tick_is_due now.firmware ≡ false
  no_tick = no_tick_by old.firmware.runtime.gone refl

  pub goes_silently : (new : Parts) (t : State) → is_returning now.firmware ≡ false → slot_at now.firmware ≡ None → record { end = ends.Next; firmware = new } ≡ instructed now.firmware → t ≡ counted now new → Silent old t (step + 1) end
  goes_silently new t here none instructed_now is =
      let turn = plain_turn now new no_tick no_notice steps_below here none instructed_now in
      let state : (turn_of now).state ≡ t = ap (λ (x : Turn). x.state) turn ∙ sym is in
      let at = silent.at in let since = silent.since in let time = silent.time in
      let steps : t.steps ≡ now.steps + 1 = ap (λ (x : State). x.steps) is in
      let same = same_events now.firmware new instructed_now in
      let moment : t.firmware.time ≡ (passed new).time = ap (λ (x : State). x.firmware.time) is in
      let later : (passed new).time ≤ new.time + 1 = omega arith in
      let was = same.2 in
      record {
        silent = subst (SilentlyTo old) state (silent_more old now silent.silent (ap (λ (x : Turn). x.happened) turn));
        at = steps ∙ ap (λ k. k + 1) at;
        bound = ap (λ (x : State). x.bound) is ∙ silent.bound;
        last = silent.last;
        since = omega arith;
        up = λ e. (omega arith);
        quiet = silent.quiet;
        events = ap (λ (x : State). x.firmware.events) is ∙ same.0 ∙ silent.events;
        level = ap (λ (x : State). x.firmware.hart.tpl) is ∙ same.1 ∙ silent.level;
        gone = ap (λ (x : State). x.firmware.runtime.gone) is ∙ same_gone now.firmware new instructed_now ∙ silent.gone;
        time = omega (arith, moment, later, was, time, since);
        first = λ e. (let none : ⊥ = omega arith in absurd none);
        second = λ e. (let is_first : step ≡ old.steps = omega arith in
            ap (λ (x : State). record { happened = Turned; state = x }) is ∙ plain_is now new instructed_now ∙ ap instruction_turn (silent.first is_first));
      }

  module _ (one : end ≡ old.steps + 1) where
    is_first : step ≡ old.steps
    is_first = let since = silent.since in omega arith

    pub is_old : now ≡ old
    is_old = silent.first is_first

  pub trap_first : (trap : Trap) (new : Parts) (halt : Halt) → (ends.Trap trap ≢ ends.Memory → record { end = ends.Trap trap; firmware = new } ≡ instructed now.firmware) → halt ≡ halt_of trap now.firmware.hart.pc → end ≡ old.steps + 1
      → stopped halt (record now { firmware = new }) ≡ instruction_turn old
  trap_first trap new halt h is one =
      ap (λ (x : Halt). stopped x (record now { firmware = new })) is
      ∙ trap_is now new trap (h (λ (e : ends.Trap trap ≡ ends.Memory). cc)) ∙ ap instruction_turn (is_old one)

  pub frames_first : (new : Parts) → (ends.Frames ≢ ends.Memory → record { end = ends.Frames; firmware = new } ≡ instructed now.firmware) → end ≡ old.steps + 1
      → record { happened = halted causes.Frames now.firmware.hart.pc 0; state = record now { firmware = new } } ≡ instruction_turn old
  frames_first new h one = frames_is now new (h (λ (e : ends.Frames ≡ ends.Memory). cc)) ∙ ap instruction_turn (is_old one)

-- ---- how near the end of the job is

due_most : (s : State) → due s ≤ 1
due_most s = by (tick_is_due s.firmware)
  where
    by : (b : Bool) → (if b then 1 else 0) ≤ 1
    by true = omega arith
    by false = omega arith

-- instructions bring it no further away
pub silent_nearer : (old now : State) (step end : ℕ) → Silent old now step end → potential now ≤ potential old
silent_nearer old now step end silent = by (step - old.steps) refl
  where
    by : (n : ℕ) → n ≡ step - old.steps → potential now ≤ potential old
    by zero e = let since = silent.since in let same : step ≡ old.steps = omega (arith, e, since) in rw (silent.first same) (omega arith)
    by (suc n) e =
        let since = silent.since in let at = silent.at in let bound = silent.bound in let last = silent.last in
        let level : 31 - now.firmware.hart.tpl ≡ 31 - old.firmware.hart.tpl = ap (λ tpl. 31 - tpl) silent.level in
        let up = silent.up (omega (arith, e)) in
        let left : suc (steps_left now) ≤ steps_left old = omega (arith, e, since, at, bound, last, up) in
        let most = due_most now in
        omega (arith, level, left, most)

-- ---- a job under way

-- So far the machine said nothing.
pub record Underway (old now : State) : Type 0 where
  pub silent : SilentlyTo old now
  pub within : old.steps ≤ old.bound

module _ (law : JobsAreTurns) (old now mid new : State) (so_far : Underway old now) (plain : SilentlyTo now mid) where
  to_mid : SilentlyTo old mid
  to_mid = silent_then old now mid so_far.silent plain

  pub silent_round : record { happened = Turned; state = new } ≡ turn_of mid → Underway old new
  silent_round e = record {
    silent = subst (SilentlyTo old) (ap (λ (t : Turn). t.state) (sym e)) (silent_more old mid to_mid (ap (λ (t : Turn). t.happened) (sym e)));
    within = so_far.within;
  }

  fewer_by : (h : Happened) → h ≢ Turned → (turn_of mid).happened ≡ h → Steps mid → steps_left (turn_of mid).state < steps_left mid
  fewer_by h loud e (Free steps bound silent) = absurd (loud (sym e ∙ silent))
  fewer_by h loud e (One steps bound below) = omega (arith, steps, bound, below)

  pub says : (h : Happened) → record { happened = h; state = new } ≡ turn_of mid → h ≢ Turned → Says h old new
  says h e loud =
      let behind = silent_job law to_mid.0 old mid so_far.within to_mid.1 in
      let back = sym e in
      let happened : (turn_of mid).happened ≡ h = ap (λ (t : Turn). t.happened) back in
      let state : (turn_of mid).state ≡ new = ap (λ (t : Turn). t.state) back in
      record {
        before = mid;
        silent = to_mid;
        turn = back;
        loud = loud;
        rest = behind.0 ∙ law mid behind.1 ∙ ap (λ (t : Turn). joined t.happened t.state (job_of t.state)) back;
        fewer = λ more. (
            let less = fewer_by h loud happened (steps_of mid behind.1 (ap goes_on happened ∙ more)) in
            let most = behind.2 in
            let is : steps_left (turn_of mid).state ≡ steps_left new = ap steps_left state in
            omega (arith, less, most, is));
      }
