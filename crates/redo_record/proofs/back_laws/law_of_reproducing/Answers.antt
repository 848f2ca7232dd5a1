use Rattle.redo_record.proofs.Reproducing.{reproducing_law}
use Rattle.redo_record.proofs.back_laws.law_of_reproducing.Goals as goal

pub returns : goal.returns
returns c = reproducing_law
