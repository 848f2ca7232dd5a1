use Rattle.core_events.proofs.ValuesKept.{values_keep, values_split_keep, values_join_keep}
use Rattle.core_events.proofs.laws.law_of_values.Goals as goal

pub returns-clause-event : goal.returns-clause-event
returns-clause-event c = λ z e b who v g o k a. values_keep z e b who v g o.layers.threads o.layers.locks o.layers.entries o.layers.numbers o.layers.turn o.layers.pages o.told a k

pub returns-clause-split : goal.returns-clause-split
returns-clause-split c = λ z b who draws v g o k a. values_split_keep z b who draws v g k a

pub returns-clause-join : goal.returns-clause-join
returns-clause-join c = λ z b who other v w g o k a. values_join_keep z b who other v w g o k a
