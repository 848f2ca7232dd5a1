use Rattle.redo_record.proofs.Covering.{covering_law}
use Rattle.redo_record.proofs.laws.law_of_covering.Goals as goal

pub returns : goal.returns
returns c = covering_law
