use Rattle.stm_slots.proofs.JoinedRecords.{joined_records_law}
use Rattle.stm_slots.proofs.known_back.law_of_joined_records.Goals as goal

pub returns : goal.returns
returns c = joined_records_law
