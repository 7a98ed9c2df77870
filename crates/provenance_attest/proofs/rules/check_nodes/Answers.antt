use Rattle.std.proofs.Common.{◌∙◌, ap, sym}
use Rattle.virtual_map.specs.States.{Runtime}
use Rattle.provenance_tables.specs.Regions.{kept_with}
use Rattle.provenance_attest.proofs.Judging.{can_be}
use Rattle.provenance_attest.proofs.rules.check_nodes.Goals as goal

pub judge_nodes-requires-clause-can : goal.judge_nodes-requires-clause-can
judge_nodes-requires-clause-can c =
    can_be c.args.state.now c.args.handle c.in-Some.image.now c.args.cert.now c.requires.whole c.requires.cert c.requires.stands
    (ap (kept_with c.args.handle) (sym (c.as_slice.ensures.value ∙ ap (λ (r : Runtime). r.kept) c.state.view_is)) ∙ sym c.in-Some.ensures) c.laid_is_ordered.ensures c.map_is_map.ensures
