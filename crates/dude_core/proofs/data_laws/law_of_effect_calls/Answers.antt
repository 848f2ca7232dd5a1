use Rattle.dude_core.proofs.DataEffects.{calls_law}
use Rattle.dude_core.proofs.data_laws.law_of_effect_calls.Goals as goal

pub returns : goal.returns
returns c = calls_law
