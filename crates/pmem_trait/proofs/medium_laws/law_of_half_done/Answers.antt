use Rattle.pmem_trait.proofs.Images.{half_image}
use Rattle.pmem_trait.proofs.medium_laws.law_of_half_done.Goals as goal

pub returns : goal.returns
returns c = half_image
