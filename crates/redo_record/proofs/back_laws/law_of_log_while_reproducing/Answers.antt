use Rattle.redo_record.proofs.Reproducing.{log_while_reproducing_law}
use Rattle.redo_record.proofs.back_laws.law_of_log_while_reproducing.Goals as goal

pub returns : goal.returns
returns c = log_while_reproducing_law
