-- Each turn that doesn't end a job brings its end nearer.
use Rattle.std.proofs.Common.{◌≡◌, ◌≤◌, ◌<◌, Bool, true, false, Option, Some, None, Result, Ok, Err, IfOk, refl, sym, ap, ◌∙◌, arith}
use Rattle.std.specs.Prelude.{if◌then◌else◌}
use Rattle.event_queue.specs.declared.event.Entry.{Entry}
use Rattle.event_queue.specs.declared.event.Notify.{Notify}
use Rattle.event_queue.specs.Queue.{Whole, next_entry, after_next}
use Rattle.event_queue.specs.Timers.{has_moment}
use Rattle.event_queue.specs.Laws.{NextIsAbove, TicksOnce}
use Rattle.firmware_core.specs.declared.happened.Happened.{Happened}
use Rattle.firmware_core.specs.declared.happened.Happened.TheVariants.{Turned}
use Rattle.firmware_core.specs.Frames.{tick_is_due, notice_of, without_notice, with_notification, is_full}
use Rattle.firmware_core.specs.Turns.{State, Turn, Tick, Notice, with_firmware, tick_turn, next_turn, turn_of}
use Rattle.firmware_core.specs.Jobs.{counts, goes_on}
use Rattle.firmware_core.specs.Views.{due, potential}
use Rattle.firmware_core.proofs.TurnLemmas.{Comes, Ticks, Notices, Neither, comes, none_behind, counted_counts, next_is_tick, next_is_notice, next_is_counted, turn_is, full_turn, turn_counts, counts_below}

module _ (above : NextIsAbove) (once : TicksOnce) (s : State) (within : s.steps ≤ s.bound) (whole : Whole s.firmware.events) where
  tick_nearer : tick_is_due s.firmware ≡ true → potential (tick_turn s).state < potential s
  tick_nearer h =
      let quiet = none_behind once s.firmware h in
      let after : due (tick_turn s).state ≡ 0 = rw quiet refl in
      let before : due s ≡ 1 = rw h refl in
      omega (arith, after, before)

  same_tick : (o : Option Entry) → tick_is_due (record s.firmware { events = after_next s.firmware.events o }) ≡ tick_is_due s.firmware
  unfolding after_next has_moment
  same_tick None = refl
  same_tick (Some entry) = refl

  notice_nearer : (n : Notify) → tick_is_due s.firmware ≡ false → notice_of s.firmware ≡ Some n → potential (with_firmware s (with_notification (without_notice s.firmware) n)) < potential s
  unfolding with_notification
  notice_nearer n quiet notice =
      let is = above s.firmware.events whole s.firmware.hart.tpl n notice in
      let up = is.above in let most = is.most in
      let still : tick_is_due (with_notification (without_notice s.firmware) n) ≡ false = same_tick (next_entry s.firmware.events.queue s.firmware.hart.tpl) ∙ quiet in
      let after : due (with_firmware s (with_notification (without_notice s.firmware) n)) ≡ 0 = rw still refl in
      let before : due s ≡ 0 = rw quiet refl in
      omega (arith, up, most, after, before)

  by_full : (n : Notify) → tick_is_due s.firmware ≡ false → notice_of s.firmware ≡ Some n → (b : Bool) → (full_turn s n b).happened ≡ Turned
      → potential (full_turn s n b).state < potential s
  by_full n quiet notice true h = let bad : ⊥ = cc in absurd bad
  by_full n quiet notice false h = notice_nearer n quiet notice

  due_most : (b : Bool) → (if b then 1 else 0) ≤ 1
  due_most true = omega arith
  due_most false = omega arith

  nearer_by : Comes s → (turn_of s).happened ≡ Turned → potential (turn_of s).state < potential s
  nearer_by (Ticks tick) h = rw (turn_is s Tick (next_is_tick s tick)) (tick_nearer tick)
  nearer_by (Notices n quiet notice) h = let is = turn_is s (Notice n) (next_is_notice s n quiet notice) in rw is (by_full n quiet notice (is_full s.firmware) (rw is at h))
  nearer_by (Neither quiet none) h =
      let k : counts (next_turn s) ≡ true = ap counts (next_is_counted s quiet none) ∙ counted_counts s in
      let more : goes_on (turn_of s).happened ≡ true = ap goes_on h in
      let c = turn_counts s k more in
      let steps = c.0 in let bound = c.1 in
      let below = counts_below s within k more in
      let most = due_most (tick_is_due (turn_of s).state.firmware) in
      omega (arith, steps, bound, below, most)

  pub turn_nearer : (t : Turn) → t ≡ turn_of s → t.happened ≡ Turned → potential t.state < potential s
  turn_nearer t e h = rw e (nearer_by (comes s) (ap (λ (x : Turn). x.happened) (sym e) ∙ h))

pub nearer : {E : Type 0} (above : NextIsAbove) (once : TicksOnce) (result : Result Happened E) (s new : State) → s.steps ≤ s.bound → Whole s.firmware.events
    → IfOk result (λ h. record { happened = h; state = new } ≡ turn_of s) → IfOk result (λ h. h ≡ Turned → potential new < potential s)
nearer above once (Ok h) s new within whole e = turn_nearer above once s within whole (record { happened = h; state = new }) e
nearer above once (Err x) s new within whole e = tt
