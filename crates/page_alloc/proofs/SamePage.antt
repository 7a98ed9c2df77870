-- Pages that `==` tells to be equal are.
use Rattle.std.proofs.Common.{◌≡◌, ℕ, true, eqb, ap, ◌∙◌}
use Rattle.std.specs.Prelude.{◌&&◌}
use Rattle.std.proofs.lemmas.Bool.Decides.{Decides-eqb}
use denote.Enum.Bare.{sameb, same_true}
use Rattle.page_alloc.specs.contracts.page.Owner as owner
use Rattle.page_alloc.specs.declared.page.Owner.{Owner}
use Rattle.page_alloc.specs.declared.page.Page.{Page}
use Rattle.page_alloc.proofs.PageLemmas.{and_true}

abbrev made : ℕ → Owner → Page
made memory_type owner = record { memory_type = memory_type; owner = owner }

pub same_page : (a b : Page) → (eqb a.memory_type b.memory_type && sameb owner.the_type a.owner b.owner) ≡ true → a ≡ b
same_page a b h =
    let p = and_true _ _ h in
    let m : a.memory_type ≡ b.memory_type = (Decides-eqb a.memory_type b.memory_type).0 p.0 in
    let o : a.owner ≡ b.owner = same_true owner.the_type tt _ _ p.1 in
    ap (λ n. made n a.owner) m ∙ ap (λ q. made b.memory_type q) o
