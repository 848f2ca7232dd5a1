use Rattle.std.proofs.Common.{refl}
use Rattle.core_table.proofs.stm.Stm.extend.Goals as goal

pub load_as-requires-clause-word : goal.load_as-requires-clause-word
load_as-requires-clause-word g c = λ n told. refl
