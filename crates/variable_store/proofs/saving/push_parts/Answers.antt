use Rattle.std.proofs.Common.{◌∙◌, ◌++◌, ap}
use Rattle.variable_store.specs.Store.{entry_bytes}
use Rattle.variable_store.proofs.StoreLemmas.{six_pieces}
use Rattle.variable_store.proofs.saving.push_parts.Goals as goal

pub returns : goal.returns
unfolding entry_bytes
returns c =
    let o = c.args.out.now.items in
    six_pieces o _ _ _ _ _ _ _ _ _ _ _ _ (c.in_ok-extend_from_slice.ensures.items ∙ ap (λ x. o ++ x) c.to_bytes.ensures)
    (c.in_ok-extend_from_slice-2.ensures.items ∙ ap (λ x. c.extend_from_slice.new.self.items ++ x) c.to_le_bytes.ensures)
    c.in_ok-push_number.ensures c.in_ok-push_number-2.ensures c.in_ok-push_units.ensures c.in_ok-extend_from_slice-3.ensures.items
