use Rattle.guest_build.proofs.little_endian.+put.Given as goal

abbrev pub decreases-put : goal.decreases-put
decreases-put l = l.width
