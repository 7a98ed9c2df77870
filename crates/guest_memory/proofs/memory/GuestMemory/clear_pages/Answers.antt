use Rattle.std.proofs.Common.{◌≡◌, ◌-◌, List, Bool, arith, ap, ◌∙◌, take, drop}
use Rattle.guest_memory.specs.Lists.{count_true}
use Rattle.guest_memory.proofs.RunLemmas.{count_emptied, count_in, whole_parts}
use Rattle.guest_memory.proofs.memory.GuestMemory.clear_pages.Goals as goal

pub overflow_sub-self : goal.overflow_sub-self
overflow_sub-self c =
    let b = c.count_part.ensures ∙ ap (λ (ms : List Bool). count_true (take c.args.count (drop c.args.page ms))) c.deref.ensures.value in
    omega (arith, count_in c.self.inside.touched.items c.args.page c.args.count, c.self.invariant.1)

pub invariant_of-self : goal.invariant_of-self
invariant_of-self c =
    let b = c.count_part.ensures ∙ ap (λ (ms : List Bool). count_true (take c.args.count (drop c.args.page ms))) c.deref.ensures.value in
    let t = ap count_true c.fill-3.ensures.value in
    let few = c.self.invariant.0.touched_few in
    let n : c.self.inside.count - c.count_part.result ≡ count_true c.fill-3.new.items.items = omega (arith, count_emptied c.self.inside.touched.items c.args.page c.args.count, c.self.invariant.1) in (
      whole_parts _ _ _ _ c.self.invariant.0 c.fill.ensures.len c.fill-2.ensures.len c.fill-3.ensures.len
          (omega (arith, count_emptied c.self.inside.touched.items c.args.page c.args.count)),
      n,
    )
