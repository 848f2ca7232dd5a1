use Rattle.dude_follow.proofs.FollowingLaws.{reaching}
use Rattle.dude_follow.proofs.laws.law_of_reaching.Goals as goal

pub returns : goal.returns
returns c = reaching
