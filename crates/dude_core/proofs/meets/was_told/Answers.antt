use Rattle.std.proofs.Common.{◌∷◌, ◌∙◌, ℕ, List, ap, sym, subst}
use Rattle.pmem_trait.specs.Words.{IsIn}
use Rattle.dude_core.specs.Named.{Tells}
use Rattle.dude_core.specs.StoreData.{tells}
use Rattle.dude_core.proofs.DataEffects.{told_law}
use Rattle.dude_core.proofs.meets.was_told.Goals as goal

pub returns : goal.returns
returns c = subst (λ (told : List ℕ). Tells c.was_told.result (IsIn c.args.number told)) (ap (λ (n : ℕ). n ∷ tells c.args.store.now.ended) c.first.ensures ∙ sym (told_law c.args.z.now c.args.store.now)) c.was_told.ensures
