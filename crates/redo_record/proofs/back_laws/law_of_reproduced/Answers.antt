use Rattle.redo_record.proofs.Reproducing.{reproduced_law}
use Rattle.redo_record.proofs.back_laws.law_of_reproduced.Goals as goal

pub returns : goal.returns
returns c = reproduced_law
