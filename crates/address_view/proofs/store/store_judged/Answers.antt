use Rattle.address_view.specs.Windows.{see}
use Rattle.address_view.proofs.BaseLemmas.{base_of_stored, pages_of_stored}
use Rattle.std.proofs.Common.{sym, ◌∙◌, ap, subst, length, ◌≡◌, true}
use Rattle.guest_memory.specs.Pages.{Pages}
use Rattle.address_view.specs.Stored.{AllSeen, all_touched, stored}
use Rattle.address_view.proofs.MarkedLemmas.{all_after, touched_first}
use Rattle.address_view.proofs.store.store_judged.Goals as goal

pub put_all-requires-clause-allowed : goal.put_all-requires-clause-allowed
put_all-requires-clause-allowed c =
    subst (λ (m : Pages). AllSeen (see c.args.view.now) m c.args.at (length c.args.bytes.now)) (sym c.in-Ok.ensures.ok) c.requires.allowed

pub put_all-requires-clause-touched : goal.put_all-requires-clause-touched
put_all-requires-clause-touched c =
    subst (λ (m : Pages). all_touched (see c.args.view.now) m c.args.at (length c.args.bytes.now) ≡ true) (sym c.in-Ok.ensures.ok)
    (all_after (see c.args.view.now) c.args.memory.now c.args.memory.now.touched c.args.at _ c.whole.ensures.touched_long c.requires.allowed)

pub returns-in-Ok-clause-ok : goal.returns-in-Ok-clause-ok
returns-in-Ok-clause-ok c =
    c.put_all.ensures ∙ ap (λ (m : Pages). stored (see c.args.view.now) m c.args.at c.args.bytes.now) c.in-Ok.ensures.ok
    ∙ touched_first (see c.args.view.now) c.args.memory.now c.args.at c.args.bytes.now c.whole.ensures.touched_long c.requires.allowed

pub returns-in-Ok-clause-base : goal.returns-in-Ok-clause-base
returns-in-Ok-clause-base c = base_of_stored _ _ _ _ _ c.put_all.ensures ∙ ap (λ (m : Pages). m.base) c.in-Ok.ensures.ok

pub returns-in-Ok-clause-pages : goal.returns-in-Ok-clause-pages
returns-in-Ok-clause-pages c = pages_of_stored _ _ _ _ _ c.put_all.ensures ∙ ap (λ (m : Pages). m.pages) c.in-Ok.ensures.ok
