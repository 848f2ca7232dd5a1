use Rattle.dude_audit.proofs.OneVerdict.{one_verdict}
use Rattle.dude_audit.proofs.laws.law_of_verdicts.Goals as goal

pub returns : goal.returns
returns c = λ first limit db files printed v w a b. one_verdict files printed first limit db v w a b
