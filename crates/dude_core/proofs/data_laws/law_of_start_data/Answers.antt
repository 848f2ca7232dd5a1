use Rattle.dude_core.proofs.DataEffects.{start_law}
use Rattle.dude_core.proofs.data_laws.law_of_start_data.Goals as goal

pub returns : goal.returns
returns c = start_law
