use Rattle.core_medium.proofs.Crashes.{recovers}
use Rattle.core_medium.proofs.Start.{machine_reached}
use Rattle.core_medium.proofs.laws.law_of_crashes.Goals as goal

pub returns-clause-kept : goal.returns-clause-kept
returns-clause-kept c = λ z m len k long. recovers z k.ghost_is m.core k.layers m.store k.store len long

pub returns-clause-reached : goal.returns-clause-reached
returns-clause-reached c = λ z ss m len is long. let k = machine_reached z ss m is in recovers z k.ghost_is m.core k.layers m.store k.store len long
