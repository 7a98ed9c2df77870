use Rattle.std.proofs.Common.{sym, ap, ◌∙◌}
use Rattle.std.specs.Prelude.{slice_index}
use Rattle.prov_layout.specs.Laid.{given, laid, pieces_from, put_all}
use Rattle.prov_layout.proofs.LaidLemmas.{one_behind}
use Rattle.prov_layout.proofs.laying.lay.Goals as goal

pub returns : goal.returns
unfolding laid
returns c = c.in_ok-lay_spans.ensures ∙ ap (λ z. put_all z (pieces_from (slice_index c.args.targets.now) 0 0 c.args.spans.now)) (c.in_ok-lay_given.ensures ∙ ap (λ z. put_all z given) c.new-pieces.ensures.items) ∙ sym (one_behind _ given (pieces_from (slice_index c.args.targets.now) 0 0 c.args.spans.now))
