use Rattle.core_events.proofs.NumbersKept.{numbers_split_keep, numbers_join_keep}
use Rattle.core_events.proofs.laws.law_of_numbers.Goals as goal

pub returns-clause-split : goal.returns-clause-split
returns-clause-split c = λ z b who draws v g o k a. numbers_split_keep z b who draws v g k a

pub returns-clause-join : goal.returns-clause-join
returns-clause-join c = λ z b who other v w g o k a. numbers_join_keep z b who other v w g k a
