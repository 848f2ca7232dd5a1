use Rattle.redo_record.proofs.HeldLog.{released_rings_law}
use Rattle.redo_record.proofs.back_laws.law_of_released_rings.Goals as goal

pub returns : goal.returns
returns c = released_rings_law
