use Rattle.std.proofs.Common.{sym, ◌∙◌, refl}
use Rattle.rv_step.specs.declared.bus.Access.TheVariants as access
use Rattle.prov_layout.specs.Pieces.{piece_at}
use Rattle.prov_layout.specs.Stores.{store_keeps}
use Rattle.provenance_check.specs.Accesses.{is_allowed, stores_at}
use Rattle.provenance_check.specs.Seen.{seen}
use Rattle.provenance_check.proofs.Runs.{at_each_both}
use Rattle.provenance_check.proofs.accesses.each_stores.Goals as goal

pub returns-then-each_allowed : goal.returns-then-each_allowed
unfolding stores_at
returns-then-each_allowed g c =
    c.each_keeps.ensures ∙ sym (at_each_both (is_allowed (seen c.args.ground.now) (g.R.PageRights.allows c.args.rights.now access.Store) c.args.region c.args.width) (λ o. store_keeps (piece_at c.args.ground.now.pieces.now c.args.region) o c.args.width c.args.kind.now) c.args.s.now ∙ (rw (sym c.each_allowed.ensures.is ∙ c.if-each_allowed.true) refl))

pub returns-else-each_allowed : goal.returns-else-each_allowed
unfolding stores_at
returns-else-each_allowed g c =
    c.if-each_allowed.false ∙ sym (at_each_both (is_allowed (seen c.args.ground.now) (g.R.PageRights.allows c.args.rights.now access.Store) c.args.region c.args.width) (λ o. store_keeps (piece_at c.args.ground.now.pieces.now c.args.region) o c.args.width c.args.kind.now) c.args.s.now ∙ (rw (sym c.each_allowed.ensures.is ∙ c.if-each_allowed.false) refl))
