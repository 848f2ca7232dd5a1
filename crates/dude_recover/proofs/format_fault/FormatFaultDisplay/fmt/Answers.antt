use Rattle.std.proofs.Common.{append_assoc}
use Rattle.std.proofs.Output.{has_written_of_eq}
use Rattle.dude_recover.proofs.format_fault.FormatFaultDisplay.fmt.Goals as goal

pub returns-in-Small-clause-writes : goal.returns-in-Small-clause-writes
returns-in-Small-clause-writes g c plain ok = has_written_of_eq _ _ _ _ _ (rw c.in-Small.is (simp append_assoc)) (c.write.ensures.writes plain ok)

pub returns-in-TooFew-clause-writes : goal.returns-in-TooFew-clause-writes
returns-in-TooFew-clause-writes g c plain ok = has_written_of_eq _ _ _ _ _ (rw c.in-TooFew.is (simp append_assoc)) (c.write-in-TooFew.ensures.writes plain ok)
