use Rattle.redo_record.proofs.AppendingImages.{appending_law}
use Rattle.redo_record.proofs.laws.law_of_appending.Goals as goal

pub returns : goal.returns
returns c = appending_law
