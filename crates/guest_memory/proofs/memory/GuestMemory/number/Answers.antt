use Rattle.std.proofs.Common.{subst, ap, refl, ◌∙◌}
use Rattle.guest_memory.specs.Pages.{Pages, Whole}
use Rattle.guest_memory.proofs.NumberLemmas.{read_part}
use Rattle.guest_memory.proofs.memory.GuestMemory.number.Goals as goal

pub returns-clause-value : goal.returns-clause-value
returns-clause-value c =
    c.number_of.ensures.value ∙ read_part c.args.self.now _ _ c.args.at c.args.width _ (subst (λ (m : Pages). Whole m) c.self.view_is c.self.invariant.0)
    (c.deref.ensures.value ∙ ap (λ (m : Pages). m.bytes) c.self.view_is) (ap (λ (m : Pages). m.base) c.self.view_is) c.requires.inside refl
