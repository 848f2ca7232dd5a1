use Rattle.pmem_trait.proofs.Laws.{made_keep}
use Rattle.pmem_trait.proofs.medium_laws.law_of_calls.Goals as goal

pub returns : goal.returns
returns g c cs ok s t makes law = made_keep g.P.OfImages.has makes law
