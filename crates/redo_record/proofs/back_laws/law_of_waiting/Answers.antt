use Rattle.redo_record.proofs.WaitingRecords.{waiting_law}
use Rattle.redo_record.proofs.back_laws.law_of_waiting.Goals as goal

pub returns : goal.returns
returns c = waiting_law
