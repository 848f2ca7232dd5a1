use Rattle.redo_record.proofs.EncodedCells.{encoding_law}
use Rattle.redo_record.proofs.laws.law_of_encoding.Goals as goal

pub returns : goal.returns
returns c = encoding_law
