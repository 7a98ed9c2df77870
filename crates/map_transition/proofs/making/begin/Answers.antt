use Rattle.std.proofs.Common.{◌<◌, ◌^◌, ◌∙◌, ap, subst, sym, List}
use Rattle.std.specs.List.{All}
use Rattle.map_faults.specs.Grounds.{Kept}
use Rattle.virtual_map.specs.States.{Runtime}
use Rattle.map_transition.proofs.WholeLemmas.{image_low}
use Rattle.map_transition.proofs.making.begin.Goals as goal

pub mark_all-requires-clause-low : goal.mark_all-requires-clause-low
mark_all-requires-clause-low c =
    subst (λ (ks : List Kept). All (λ (image : Kept). image.base < 2 ^ 63) ks) (sym (c.as_mut_slice.ensures.value ∙ ap (λ (r : Runtime). r.kept) c.state.view_is))
    (λ k d l. image_low c.args.state.now _ c.requires (c.requires.images k d l))
