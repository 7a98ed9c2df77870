use Rattle.std.proofs.Common.{◌∙◌, ap, arith, ℕ, List, ◌≤◌, ◌+◌, ◌<◌, ◌≡◌, drop}
use Rattle.event_queue.specs.Timers.{Ticks, reached, first_moment}
use Rattle.event_queue.proofs.Moments.{rest_is, passed_more, passed_room}
use Rattle.event_queue.proofs.ticks.TickMoments.pass.Goals as goal

pub invariant_of-self : goal.invariant_of-self
invariant_of-self c =
    let later : c.self.inside.last ≤ c.args.present = (let l = ap (λ (t : Ticks). t.last) c.self.view_is in let r = c.requires in omega (arith, l, r)) in
    let left = rest_is c.self.inside.listed.items c.as_slice.result.now c.self.inside.passed c.as_slice.ensures.value in
    let same : (low : ℕ) → c.args.present < low → first_moment (drop (c.self.inside.passed + c.passed.result) c.self.inside.listed.items) low ≡ first_moment c.self.inside.listed.items low
    = passed_more c.self.inside.listed.items _ c.self.inside.last c.args.present c.self.inside.passed c.passed.result c.self.invariant.2 left c.passed.ensures later in (
      c.moment_above-self-inside.ensures
          ∙ (ap (λ (ts : List ℕ). reached (first_moment ts (c.args.present + 1))) (rest_is c.self.inside.listed.items c.as_slice-2.result.now (c.self.inside.passed + c.passed.result) c.as_slice-2.ensures.value)
          ∙ ap reached (same (c.args.present + 1) (omega arith))),
      passed_room c.self.inside.listed.items _ c.args.present c.self.inside.passed c.passed.result c.self.invariant.1 left c.passed.ensures,
      same,
      c.self.invariant.3,
    )
