use Rattle.std.proofs.Common.{◌≡◌, ◌+◌, ◌-◌, true, List, Bool, arith, ap, refl, ◌∙◌, take, drop}
use Rattle.guest_memory.specs.Lists.{count_true, filled}
use Rattle.guest_memory.specs.Pages.{Pages}
use Rattle.guest_memory.proofs.RunLemmas.{count_filled, count_in, are_there, whole_parts, reserved_is}
use Rattle.guest_memory.proofs.memory.GuestMemory.mark.Goals as goal

pub overflow_sub-after : goal.overflow_sub-after
overflow_sub-after c =
    let b = c.count_part-before.ensures ∙ ap (λ (ms : List Bool). count_true (take c.args.count (drop c.args.page ms))) c.deref.ensures.value in
    omega (arith, count_in c.self.inside.touched.items c.args.page c.args.count, c.self.invariant.1)

pub returns-then-after-gt-FRAME_LIMIT : goal.returns-then-after-gt-FRAME_LIMIT
returns-then-after-gt-FRAME_LIMIT c =
    let b = c.count_part-before.ensures ∙ ap (λ (ms : List Bool). count_true (take c.args.count (drop c.args.page ms))) c.deref.ensures.value in
    let t = ap (λ (m : Pages). count_true (filled m.touched c.args.page c.args.count true)) c.self.view_is in (
      are_there c.args.self.now c.args.page c.args.count c.requires,
      omega (arith, count_filled c.self.inside.touched.items c.args.page c.args.count, count_in c.self.inside.touched.items c.args.page c.args.count, c.self.invariant.1),
      refl,
    )

pub invariant_of-self : goal.invariant_of-self
invariant_of-self c =
    let b = c.count_part-before.ensures ∙ ap (λ (ms : List Bool). count_true (take c.args.count (drop c.args.page ms))) c.deref.ensures.value in
    let t = ap count_true c.fill.ensures.value in
    let n : c.self.inside.count - c.count_part-before.result + c.args.count ≡ count_true c.fill.new.items.items =
    omega (arith, count_filled c.self.inside.touched.items c.args.page c.args.count, count_in c.self.inside.touched.items c.args.page c.args.count, c.self.invariant.1) in
    (whole_parts _ _ _ _ c.self.invariant.0 refl refl c.fill.ensures.len (omega arith), n)

pub returns : goal.returns
returns c =
    let b = c.count_part-before.ensures ∙ ap (λ (ms : List Bool). count_true (take c.args.count (drop c.args.page ms))) c.deref.ensures.value in
    let t = ap (λ (m : Pages). count_true (filled m.touched c.args.page c.args.count true)) c.self.view_is in (
      are_there c.args.self.now c.args.page c.args.count c.requires,
      omega (arith, count_filled c.self.inside.touched.items c.args.page c.args.count, count_in c.self.inside.touched.items c.args.page c.args.count, c.self.invariant.1),
      reserved_is _ _ _ _ _ c.self.view_is c.fill.ensures.value,
    )
