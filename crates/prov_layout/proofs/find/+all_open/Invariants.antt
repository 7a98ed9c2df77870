use Rattle.prov_layout.proofs.find.+all_open.Given as goal

abbrev pub decreases-all_open : goal.decreases-all_open
decreases-all_open l = l.n
