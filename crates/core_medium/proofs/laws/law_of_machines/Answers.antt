use Rattle.core_medium.proofs.Start.{machine_reached}
use Rattle.core_medium.proofs.laws.law_of_machines.Goals as goal

pub returns : goal.returns
returns c = λ z ss m is. machine_reached z ss m is
