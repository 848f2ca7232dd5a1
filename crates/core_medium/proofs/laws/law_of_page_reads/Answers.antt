use Rattle.core_medium.proofs.PageReads.{whole_page_read}
use Rattle.core_medium.proofs.laws.law_of_page_reads.Goals as goal

pub returns : goal.returns
returns c = λ z m p k below none. whole_page_read z k.ghost_is m.core k.layers p m.store k.store below none
