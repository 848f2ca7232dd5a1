use Rattle.dude_follow.proofs.FollowingLaws.{arrays}
use Rattle.dude_follow.proofs.laws.law_of_arrays.Goals as goal

pub returns : goal.returns
returns c = arrays
