use Rattle.redo_record.proofs.EncodedCells.{decoding_law}
use Rattle.redo_record.proofs.laws.law_of_decoding.Goals as goal

pub returns : goal.returns
returns c = decoding_law
