use Rattle.guest_build.proofs.LayoutLemmas.{filled_in, laid_out}
use Rattle.guest_build.proofs.MadeLemmas.{sound}
use Rattle.guest_build.proofs.SiteLemmas.{sites_in_are}
use Rattle.guest_build.proofs.laws.sites_are_of_labels.Goals as goal

pub returns : goal.returns
returns c = λ text placed entry all made small is.
    let fits = filled_in entry all small in
    let holds = sound text entry all made fits (laid_out all fits) in
    sites_in_are c.blocks_follow_each_other.ensures entry all holds.1 holds.0 placed is
