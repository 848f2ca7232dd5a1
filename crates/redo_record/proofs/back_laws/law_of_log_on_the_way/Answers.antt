use Rattle.redo_record.proofs.Persisting.{log_on_the_way_law}
use Rattle.redo_record.proofs.back_laws.law_of_log_on_the_way.Goals as goal

pub returns : goal.returns
returns c = log_on_the_way_law
