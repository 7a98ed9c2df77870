use Rattle.std.proofs.Common.{◌+◌, ◌∙◌, ap, sym, arith}
use Rattle.std.specs.Prelude.{slice_set, ◌-◌}
use Rattle.page_alloc.proofs.SamePage.{same_page}
use Rattle.page_alloc.proofs.SplitLemmas.{Joined, is_joined, two_fit}
use Rattle.page_alloc.proofs.runs.join.Goals as goal

pub overflow_add-before : goal.overflow_add-before
overflow_add-before c =
    let fit = two_fit c.args.runs.now.items c.args.place c.index.result.now c.index-2.result.now (omega arith) (omega arith) c.index.ensures c.index-2.ensures in
    let few = c.requires.few in
    omega arith

joined_of : (c : goal.After-runs-1) → Joined c.args.runs.now.items (slice_set c.remove.new.self.items (c.args.place - 1) (record { count = c.index.result.now.count + c.index-2.result.now.count; page = c.index-2.result.now.page }))
joined_of c =
    is_joined c.args.runs.now.items _ c.args.place c.index.result.now c.index-2.result.now (omega arith) (omega arith) c.index.ensures c.index-2.ensures
    (same_page _ _ (sym c.eq.ensures ∙ c.if-eq.true)) c.requires.none_empty
    (ap (λ runs. slice_set runs (c.args.place - 1) (record { count = c.index.result.now.count + c.index-2.result.now.count; page = c.index-2.result.now.page })) c.remove.ensures.items)

pub returns-then-eq-clause-pages : goal.returns-then-eq-clause-pages
returns-then-eq-clause-pages c = (joined_of c).pages

pub returns-then-eq-clause-none_empty : goal.returns-then-eq-clause-none_empty
returns-then-eq-clause-none_empty c = (joined_of c).none_empty
