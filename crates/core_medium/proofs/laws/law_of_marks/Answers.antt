use Rattle.core_medium.proofs.Marks.{marks_at}
use Rattle.core_medium.proofs.laws.law_of_marks.Goals as goal

pub returns : goal.returns
returns c = marks_at
