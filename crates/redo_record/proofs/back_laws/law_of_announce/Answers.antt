use Rattle.redo_record.proofs.HeldLog.{announce_law}
use Rattle.redo_record.proofs.back_laws.law_of_announce.Goals as goal

pub returns : goal.returns
returns c = announce_law
