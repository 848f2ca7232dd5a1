use Rattle.pmem_trait.proofs.Runs.{made_listed}
use Rattle.pmem_trait.proofs.medium_laws.law_of_listing.Goals as goal

pub returns : goal.returns
returns c = made_listed
