use Rattle.dude_recover.proofs.OpeningStates.{opening_law}
use Rattle.dude_recover.proofs.opening_law.law_of_opening.Goals as goal

pub returns : goal.returns
returns c = opening_law
