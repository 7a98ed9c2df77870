use Rattle.prov_layout.proofs.find.+all_plain.Given as goal

abbrev pub decreases-all_plain : goal.decreases-all_plain
decreases-all_plain l = l.n
