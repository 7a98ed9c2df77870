use Rattle.std.proofs.Common.{◌+◌, arith, sym, ap, drop, ◌∙◌}
use Rattle.std.specs.Prelude.{slice_index}
use Rattle.std.proofs.lemmas.List.{drop_all, drop_more}
use Rattle.prov_layout.specs.Laid.{pieces_from, put_all}
use Rattle.prov_layout.proofs.LaidLemmas.{one_more}
use Rattle.prov_layout.proofs.laying.lay_spans.Goals as goal

pub loop-s-preserved : goal.loop-s-preserved
loop-s-preserved c = (
  one_more (slice_index c.args.targets.now) c.loop-s.i c.loop-s.cell c.target_of.result c.next_cell-cell.result _ (drop (c.loop-s.s-index + 1) c.args.spans.now) c.loop-s.pieces.items c.lay_span.new.pieces.items c.target_of.ensures c.next_cell-cell.ensures.is c.in_ok-lay_span.ensures
      ∙ ap (λ z. put_all c.loop-s.pieces.items (pieces_from (slice_index c.args.targets.now) c.loop-s.i c.loop-s.cell z)) (sym (drop_more c.args.spans.now c.loop-s.s-index _ c.loop-s-test.true))
      ∙ c.loop-s.invariant.0,
  omega (arith, c.loop-s.invariant.1),
  omega (arith, c.loop-s.invariant.2, c.next_cell-cell.ensures.most),
)

pub returns : goal.returns
unfolding put_all pieces_from
returns c =
    sym (ap (λ z. put_all c.loop-s.pieces.items (pieces_from (slice_index c.args.targets.now) c.loop-s.i c.loop-s.cell z)) (drop_all c.loop-s.s-index c.args.spans.now c.loop-s-test.false)) ∙ c.loop-s.invariant.0
