use Rattle.dude_core.proofs.DataEffects.{on_medium_law}
use Rattle.dude_core.proofs.data_laws.law_of_on_medium.Goals as goal

pub returns : goal.returns
returns c = on_medium_law
