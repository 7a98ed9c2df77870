use Rattle.std.proofs.Common.{◌+◌, ◌-◌, arith, sym, ap, ◌∙◌, ◌≡◌}
use Rattle.prov_layout.specs.Laid.{put_all, put_in, service_cells}
use Rattle.prov_layout.proofs.LaidLemmas.{services}
use Rattle.prov_layout.proofs.laying.lay_given.Goals as goal

pub loop-i-preserved : goal.loop-i-preserved
loop-i-preserved c =
    ap (λ z. put_all z (service_cells (c.loop-i.i + 1) (14 - (c.loop-i.i + 1)))) c.in_ok-put_in-3.ensures
    ∙ services c.service_cell.result c.loop-i.pieces.items c.loop-i.i 14 (14 - (c.loop-i.i + 1)) (omega (arith, c.loop-i-test.true)) c.service_cell.ensures
    ∙ c.loop-i.invariant

pub returns : goal.returns
unfolding put_all service_cells
returns c =
    let z : 14 - c.loop-i.i ≡ 0 = omega (arith, c.loop-i-test.false) in
    sym (ap (λ n. put_all c.loop-i.pieces.items (service_cells c.loop-i.i n)) z) ∙ c.loop-i.invariant ∙ ap (λ x. put_all x (service_cells 0 14)) (c.in_ok-put_in-2.ensures ∙ ap (put_in _) c.in_ok-put_in.ensures)
