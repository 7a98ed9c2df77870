use Rattle.std.proofs.Common.{◌≡◌, sym, ap, ◌∙◌}
use Rattle.guest_memory.specs.Lists.{count_true}
use Rattle.guest_memory.proofs.MarkLemmas.{touched_already, whole_touch}
use Rattle.guest_memory.proofs.memory.GuestMemory.touch.Goals as goal

pub returns-then-is_touched : goal.returns-then-is_touched
returns-then-is_touched c = touched_already _ _ (sym c.if-is_touched.ensures)

pub invariant_of-self : goal.invariant_of-self
invariant_of-self c =
    let n : c.self.inside.count ≡ c.touched.result = c.self.invariant.1 ∙ ap (λ m. count_true m.touched) c.self.view_is ∙ sym c.touched.ensures in
    whole_touch _ _ _ _ c.self.view_is c.self.invariant.0 c.requires (sym c.if-is_touched.ensures) c.self.invariant.1 (rw n c.if-touched-eq-FRAME_LIMIT.false)
