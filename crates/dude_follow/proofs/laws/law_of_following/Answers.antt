use Rattle.dude_follow.proofs.FollowingLaws.{following}
use Rattle.dude_follow.proofs.laws.law_of_following.Goals as goal

pub returns : goal.returns
returns c = following
