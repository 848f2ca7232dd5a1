use Rattle.std.proofs.Common.{append_assoc}
use Rattle.std.proofs.Output.{has_written_of_eq}
use Rattle.dude_core.proofs.core_fault.CoreFaultDisplay.fmt.Goals as goal

pub returns-in-Size-clause-writes : goal.returns-in-Size-clause-writes
returns-in-Size-clause-writes g c plain ok = has_written_of_eq _ _ _ _ _ (rw c.in-Size.is (simp append_assoc)) (c.write.ensures.writes plain ok)
