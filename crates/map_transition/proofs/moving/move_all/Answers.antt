use Rattle.std.proofs.Common.{◌≡◌, ap, subst, sym, None, ◌∙◌}
use Rattle.map_faults.specs.Faults.{first_fault}
use Rattle.virtual_map.specs.States.{Runtime}
use Rattle.runtime_turn.specs.Functions.{ground_of}
use Rattle.map_transition.specs.Wholes.{Whole}
use Rattle.map_transition.specs.Transitions.{tables_moved}
use Rattle.map_transition.proofs.WholeLemmas.{whole_words, whole_tables, whole_seen}
use Rattle.map_transition.proofs.moving.move_all.Goals as goal

pub point_tables-requires : goal.point_tables-requires
point_tables-requires c = subst (λ (r : Runtime). Whole r) (sym c.move_words.ensures) (whole_words c.args.map.now.entries c.args.state.now c.requires.whole)

pub see_by-requires-clause-whole : goal.see_by-requires-clause-whole
see_by-requires-clause-whole c =
    let words : Whole c.move_words.new.state = subst (λ (r : Runtime). Whole r) (sym c.move_words.ensures) (whole_words c.args.map.now.entries c.args.state.now c.requires.whole) in
    subst (λ (r : Runtime). Whole r) (sym c.point_tables.ensures) (whole_tables c.args.map.now.entries c.move_words.new.state words)

pub returns-clause-whole : goal.returns-clause-whole
returns-clause-whole c =
    let words : Whole c.move_words.new.state = subst (λ (r : Runtime). Whole r) (sym c.move_words.ensures) (whole_words c.args.map.now.entries c.args.state.now c.requires.whole) in
    let tables : Whole c.point_tables.new.state = subst (λ (r : Runtime). Whole r) (sym c.point_tables.ensures) (whole_tables c.args.map.now.entries c.move_words.new.state words) in
    let accepted : first_fault (ground_of c.point_tables.new.state) c.args.map.now ≡ None
    = ap (λ (r : Runtime). first_fault (ground_of r) c.args.map.now) (c.point_tables.ensures ∙ ap (λ (r : Runtime). tables_moved c.args.map.now.entries r) c.move_words.ensures) ∙ c.requires.accepted in
    subst (λ (r : Runtime). Whole r) (sym c.see_by.ensures) (whole_seen c.point_tables.new.state c.args.map.now tables accepted)
