use Rattle.address_view.proofs.access.+number_slowly.Given as goal

abbrev pub decreases-number_slowly : goal.decreases-number_slowly
decreases-number_slowly l = l.width
