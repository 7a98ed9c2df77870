use Rattle.map_transition.proofs.marking.+number_at.Given as goal

abbrev pub decreases-number_at : goal.decreases-number_at
decreases-number_at l = l.width
