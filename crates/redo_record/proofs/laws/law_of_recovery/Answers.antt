use Rattle.redo_record.proofs.Recovered.{recovery_law}
use Rattle.redo_record.proofs.laws.law_of_recovery.Goals as goal

pub returns : goal.returns
returns c = recovery_law
