use Rattle.std.proofs.Common.{refl}
use Rattle.core_table.proofs.stm.Stm.raise_durable.Goals as goal

pub store_as-requires-clause-word : goal.store_as-requires-clause-word
store_as-requires-clause-word g c = λ n told. refl
