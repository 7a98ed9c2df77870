use Rattle.prov_layout.proofs.find.+all_code.Given as goal

abbrev pub decreases-all_code : goal.decreases-all_code
decreases-all_code l = l.n
