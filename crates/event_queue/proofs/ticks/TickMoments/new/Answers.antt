use Rattle.std.proofs.Common.{◌∙◌, ap, refl, arith, ℕ, List}
use Rattle.event_queue.specs.Timers.{reached, first_moment}
use Rattle.event_queue.proofs.ticks.TickMoments.new.Goals as goal

pub moment_above-ahead-requires : goal.moment_above-ahead-requires
moment_above-ahead-requires c = λ h. rw c.as_slice-2.ensures.value (rw c.as_slice.ensures.value at (c.is_rising-is_rising.ensures h))

pub invariant_of-result : goal.invariant_of-result
invariant_of-result c = (
  c.moment_above-ahead.ensures ∙ ap (λ (ts : List ℕ). reached (first_moment ts 1)) c.as_slice-2.ensures.value,
  omega arith,
  λ low h. refl,
  λ h. rw c.as_slice.ensures.value at (c.is_rising-is_rising.ensures h),
)
