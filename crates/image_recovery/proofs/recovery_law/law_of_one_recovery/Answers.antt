use Rattle.image_recovery.proofs.OneRecovery.{one_recovery_law}
use Rattle.image_recovery.proofs.recovery_law.law_of_one_recovery.Goals as goal

pub returns : goal.returns
returns c = one_recovery_law
