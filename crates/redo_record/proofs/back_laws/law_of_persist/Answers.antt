use Rattle.redo_record.proofs.Persisting.{persist_law}
use Rattle.redo_record.proofs.back_laws.law_of_persist.Goals as goal

pub returns : goal.returns
returns c = persist_law
