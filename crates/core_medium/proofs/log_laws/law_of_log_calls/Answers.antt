use Rattle.core_medium.proofs.LogCalls.{persist_stands, reproduce_stands}
use Rattle.core_medium.proofs.log_laws.law_of_log_calls.Goals as goal

pub returns-clause-persist : goal.returns-clause-persist
returns-clause-persist c = λ z g b l t j more rings waiting k s m adds. persist_stands z g b k l s t j more m rings waiting adds

pub returns-clause-reproduce : goal.returns-clause-reproduce
returns-clause-reproduce c = λ z g b l records ws number rings waiting s pages long can keeps. reproduce_stands z g b l s records ws number rings waiting pages long can keeps
