use Rattle.core_medium.proofs.Databases.{databases_recovered, order_recovered}
use Rattle.core_medium.proofs.database_laws.law_of_recovered_databases.Goals as goal

pub returns-clause-databases : goal.returns-clause-databases
returns-clause-databases c = λ z ss m db len is long. databases_recovered z ss m db len is long

pub returns-clause-order : goal.returns-clause-order
returns-clause-order c = λ z ss m db len files done is long by_them. order_recovered z ss m db len is long files done by_them
