use Rattle.pmem_trait.proofs.GroupLaw.{group_settles}
use Rattle.pmem_trait.proofs.medium_laws.law_of_settling.Goals as goal

pub returns : goal.returns
returns c = group_settles
