use Rattle.redo_record.proofs.ReadCells.{decodes_back}
use Rattle.redo_record.proofs.decoding.decode.Goals as goal

pub returns-clause-back : goal.returns-clause-back
returns-clause-back c = decodes_back c.read_record.result c.read_record.ensures.ok c.read_record.ensures.bad
