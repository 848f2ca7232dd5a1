use Rattle.tatp_check.proofs.OneDatabase.{one_database}
use Rattle.tatp_check.proofs.laws.law_of_one_database.Goals as goal

pub returns : goal.returns
returns c = one_database
