use Rattle.core_medium.proofs.Combined.{combined_law}
use Rattle.core_medium.proofs.laws.law_of_combined_writes.Goals as goal

pub returns : goal.returns
returns c = λ words ws vs up_w up_v in_w in_v same. combined_law words ws vs up_w up_v in_w in_v same
