use Rattle.dude_follow.proofs.LeaderImagesLaw.{images}
use Rattle.dude_follow.proofs.laws.law_of_images.Goals as goal

pub returns : goal.returns
returns c = images
