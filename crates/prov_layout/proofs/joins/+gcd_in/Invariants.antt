use Rattle.prov_layout.proofs.joins.+gcd_in.Given as goal

abbrev pub decreases-gcd_in : goal.decreases-gcd_in
decreases-gcd_in l = l.steps
