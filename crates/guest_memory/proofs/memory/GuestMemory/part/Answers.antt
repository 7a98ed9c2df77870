use Rattle.std.proofs.Common.{subst, ap, refl, ◌∙◌}
use Rattle.guest_memory.specs.Pages.{Pages, Whole}
use Rattle.guest_memory.proofs.PartLemmas.{read_out}
use Rattle.guest_memory.proofs.memory.GuestMemory.part.Goals as goal

pub returns : goal.returns
returns c =
    read_out c.args.self.now _ _ c.args.at _ _ (subst (λ (m : Pages). Whole m) c.self.view_is c.self.invariant.0)
    (c.deref.ensures.value ∙ ap (λ (m : Pages). m.bytes) c.self.view_is) (ap (λ (m : Pages). m.base) c.self.view_is) c.requires refl
