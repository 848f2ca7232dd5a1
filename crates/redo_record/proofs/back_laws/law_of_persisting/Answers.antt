use Rattle.redo_record.proofs.Persisting.{persisting_law}
use Rattle.redo_record.proofs.back_laws.law_of_persisting.Goals as goal

pub returns : goal.returns
returns c = persisting_law
