use Rattle.redo_record.proofs.HeldLog.{held_log_law}
use Rattle.redo_record.proofs.back_laws.law_of_held_log.Goals as goal

pub returns : goal.returns
returns c = held_log_law
