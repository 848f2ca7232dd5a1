use Rattle.core_table.proofs.Foresees.{empties_full, raises_durable, raises_reproduced}
use Rattle.core_table.proofs.foreseen.law_of_foreseen.Goals as goal

pub returns-clause-empty : goal.returns-clause-empty
returns-clause-empty g c = λ key z id k t j n turn e. empties_full g.P.SlotRule.fact key z id k t j n turn e

pub returns-clause-durable : goal.returns-clause-durable
returns-clause-durable g c = λ key z id k x drawn all. raises_durable g.P.SlotRule.fact key z id k x drawn all

pub returns-clause-reproduced : goal.returns-clause-reproduced
returns-clause-reproduced g c = λ key z id k x drawn all. raises_reproduced g.P.SlotRule.fact key z id k x drawn all
