use Rattle.redo_record.proofs.SingleReplay.{replay_law}
use Rattle.redo_record.proofs.laws.law_of_replay.Goals as goal

pub returns : goal.returns
returns c = replay_law
