use Rattle.dude_base.proofs.Joining.{joining_law}
use Rattle.dude_base.proofs.bundle.law_of_joining.Goals as goal

pub returns : goal.returns
returns c = joining_law
