use Rattle.redo_record.proofs.RingRoom.{room_law}
use Rattle.redo_record.proofs.laws.law_of_room.Goals as goal

pub returns : goal.returns
returns c = room_law
