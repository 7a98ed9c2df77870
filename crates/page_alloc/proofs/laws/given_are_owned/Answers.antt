use Rattle.page_alloc.proofs.OwnerLemmas.{given_are_owned}
use Rattle.page_alloc.proofs.laws.given_are_owned.Goals as goal

pub returns : goal.returns
returns c = given_are_owned
