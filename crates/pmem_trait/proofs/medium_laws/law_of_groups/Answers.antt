use Rattle.pmem_trait.proofs.GroupLaw.{group_law}
use Rattle.pmem_trait.proofs.medium_laws.law_of_groups.Goals as goal

pub returns : goal.returns
returns g c len p ws ls holds = group_law ws holds ls
