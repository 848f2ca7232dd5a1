use Rattle.redo_record.proofs.RingRoom.{release_law}
use Rattle.redo_record.proofs.laws.law_of_release.Goals as goal

pub returns : goal.returns
returns c = release_law
