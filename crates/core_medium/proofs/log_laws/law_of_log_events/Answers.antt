use Rattle.core_medium.proofs.GatheredOn.{gathers_on}
use Rattle.core_medium.proofs.LogEvents.{log_keep}
use Rattle.core_medium.proofs.LogPartings.{log_split_keep, log_join_keep}
use Rattle.core_medium.proofs.log_laws.law_of_log_events.Goals as goal

pub returns-clause-event : goal.returns-clause-event
returns-clause-event c = λ z g b l who e v k s a on. log_keep z g b l k s who v e a on

pub returns-clause-split : goal.returns-clause-split
returns-clause-split c = λ z g b l who draws v s may. log_split_keep z g b l s who draws v may

pub returns-clause-join : goal.returns-clause-join
returns-clause-join c = λ z g b l who other v w s may. log_join_keep z g b l s who other v w may

pub returns-clause-gathering : goal.returns-clause-gathering
returns-clause-gathering c = λ z g b l who e v k a on t j more m. gathers_on z g b k l who v e a on t j more m
