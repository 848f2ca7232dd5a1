use Rattle.std.proofs.Common.{[], ◌∷◌, rules, tests}
use Rattle.std.proofs.lemmas.Iterator.{YieldsList-from_slice, cases_from_any}
use Rattle.pmem_trait.specs.declared.call.Call.{Call}
use Rattle.dude_core.specs.StoreData.{tells, ToldFrom}
use Rattle.dude_core.proofs.StoreLists.{any_told_from}
use Rattle.dude_core.proofs.told.has_told_from.Goals as goal

pub returns : goal.returns
returns c = any_told_from c.args.number c.args.calls.now c.any.result
    (cases_from_any _ _ c.any.result (λ (x : Call). ToldFrom c.args.number (tells (x ∷ []))) (λ (x : Call). ToldFrom c.args.number (tells (x ∷ [])) → ⊥) c.any.ensures.ran (YieldsList-from_slice c.args.calls.now cc) (λ x q k. search (rules, tests)) (λ x q k. search (rules, tests)))
