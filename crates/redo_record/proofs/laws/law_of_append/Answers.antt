use Rattle.redo_record.proofs.AppendedRecord.{append_law}
use Rattle.redo_record.proofs.laws.law_of_append.Goals as goal

pub returns : goal.returns
returns c = append_law
