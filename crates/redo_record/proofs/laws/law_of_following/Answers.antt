use Rattle.redo_record.proofs.RingRoom.{following_law}
use Rattle.redo_record.proofs.laws.law_of_following.Goals as goal

pub returns : goal.returns
returns c = following_law
