use Rattle.run_order.proofs.Law.{law}
use Rattle.run_order.proofs.runs.law_of_runs.Goals as goal

pub returns : goal.returns
returns c = law
