use Rattle.std.proofs.Common.{refl}
use Rattle.core_table.proofs.stm.Stm.touch.Goals as goal

pub change_as-requires-clause-word : goal.change_as-requires-clause-word
change_as-requires-clause-word g c = λ n told. rw c.requires.number refl
