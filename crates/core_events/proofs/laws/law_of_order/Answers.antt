use Rattle.core_events.proofs.OrderKept.{order_keep, order_split_keep, order_join_keep}
use Rattle.core_events.proofs.laws.law_of_order.Goals as goal

pub returns-clause-event : goal.returns-clause-event
returns-clause-event c = λ z e b who v g o k a. order_keep z e b who v g o.threads o.locks o.turn o.numbers k a

pub returns-clause-split : goal.returns-clause-split
returns-clause-split c = λ z b who draws v g o k a. order_split_keep z b who draws v g k a

pub returns-clause-join : goal.returns-clause-join
returns-clause-join c = λ z b who other v w g o k a. order_join_keep z b who other v w g k a
