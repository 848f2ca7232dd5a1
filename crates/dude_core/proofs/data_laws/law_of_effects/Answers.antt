use Rattle.dude_core.proofs.DataEffects.{effects_law}
use Rattle.dude_core.proofs.data_laws.law_of_effects.Goals as goal

pub returns : goal.returns
returns c = effects_law
