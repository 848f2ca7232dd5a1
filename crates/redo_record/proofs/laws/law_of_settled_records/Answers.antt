use Rattle.redo_record.proofs.SettledRecords.{settled_records_law}
use Rattle.redo_record.proofs.laws.law_of_settled_records.Goals as goal

pub returns : goal.returns
returns c = settled_records_law
