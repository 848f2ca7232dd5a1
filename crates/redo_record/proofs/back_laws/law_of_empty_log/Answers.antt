use Rattle.redo_record.proofs.HeldLog.{empty_log_law}
use Rattle.redo_record.proofs.back_laws.law_of_empty_log.Goals as goal

pub returns : goal.returns
returns c = empty_log_law
