use Rattle.redo_record.proofs.Reproducing.{reproduce_law}
use Rattle.redo_record.proofs.back_laws.law_of_reproduce.Goals as goal

pub returns : goal.returns
returns c = reproduce_law
