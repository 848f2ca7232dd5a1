use Rattle.dude_core.proofs.DataEffects.{told_law}
use Rattle.dude_core.proofs.data_laws.law_of_told.Goals as goal

pub returns : goal.returns
returns c = told_law
