use Rattle.redo_record.proofs.RingRoom.{rest_law}
use Rattle.redo_record.proofs.laws.law_of_rest.Goals as goal

pub returns : goal.returns
returns c = rest_law
