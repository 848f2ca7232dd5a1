use Rattle.tatp_rows.proofs.Unique.{populated_same}
use Rattle.tatp_rows.proofs.population.law_of_population.Goals as goal

pub returns : goal.returns
returns c = λ s one other accepted fa fb. populated_same accepted fa fb
