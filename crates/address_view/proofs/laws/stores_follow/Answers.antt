use Rattle.address_view.proofs.FollowLaws.{stores_follow}
use Rattle.address_view.proofs.laws.stores_follow.Goals as goal

pub returns : goal.returns
returns c = stores_follow
