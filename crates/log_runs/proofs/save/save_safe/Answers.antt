use Rattle.std.proofs.Common.{◌≡◌, inl, inr, ⊎_elim, ℕ, ◌<◌, Bool, true, false, if◌then◌else◌, [], ◌∷◌, refl, arith}
use Rattle.pmem_trait.specs.declared.call.Call.TheVariants.{Tell}
use Rattle.pmem_trait.specs.Words.{State, EveryImage, AfterEachCall, AfterEachCall.end, AfterEachCall.more, after_all, settled_at}
use Rattle.pmem_trait.specs.Groups.{group_calls}
use Rattle.pmem_trait.proofs.Images.{may_still}
use Rattle.pmem_trait.proofs.Laws.{made_keep, after_each_then}
use Rattle.pmem_trait.proofs.GroupLaw.{group_law, group_word}
use Rattle.log_runs.specs.Saving.{HoldsEither, save_calls}
use Rattle.log_runs.proofs.save.save_safe.Goals as goal

module _ (len old value : ℕ) (some : 0 < len) where
  -- word 0 is settled at the new value
  new_leaves : (q : State) → q.word 0 ≡ settled_at value → EveryImage len (HoldsEither old value) q
  new_leaves q is = record { each = λ image leaves. inr (may_still (q.word 0) value _ is (leaves.each 0 some)) }

  new_law : (q : State) → q.word 0 ≡ settled_at value → AfterEachCall (EveryImage len (HoldsEither old value)) q (Tell value ∷ group_calls ((8, value) ∷ []) (1 ∷ []))
  new_law q is = more (new_leaves q is)
      (group_law ((8, value) ∷ []) (λ image mix. ⊎_elim (λ may. inr (may_still (q.word 0) value _ is may)) (λ none. absurd none) (mix.each 0 some)) (1 ∷ []))

  old_law : (p : State) → p.word 0 ≡ settled_at old → AfterEachCall (EveryImage len (HoldsEither old value)) p (group_calls ((0, value) ∷ []) (0 ∷ []))
  old_law p is =
      group_law ((0, value) ∷ [])
      (λ image mix. ⊎_elim (λ may. inl (may_still (p.word 0) old _ is may)) (λ put. ⊎_elim (λ h. inr h) (λ none. absurd none) put) (mix.each 0 some))
      (0 ∷ [])

  law : (p : State) (tell : Bool) → p.word 0 ≡ settled_at old
      → AfterEachCall (EveryImage len (HoldsEither old value)) p (save_calls value tell)
  law p tell is =
      after_each_then (old_law p is) (rest tell)
    where
      settled : (after_all (group_calls ((0, value) ∷ []) (0 ∷ [])) p).word 0 ≡ settled_at value
      settled = group_word ((0, value) ∷ []) (0 ∷ []) p 0 old is (inr (inl refl))

      rest : (b : Bool) → AfterEachCall (EveryImage len (HoldsEither old value)) (after_all (group_calls ((0, value) ∷ []) (0 ∷ [])) p) (if b then Tell value ∷ group_calls ((8, value) ∷ []) (1 ∷ []) else [])
      rest true = new_law _ settled
      rest false = end (new_leaves _ settled)

pub returns-clause-safe : goal.returns-clause-safe
returns-clause-safe g c old at_rest =
    made_keep (HoldsEither old c.args.value) c.save.ensures.made
    (λ told. law (g.M.Medium.sight c.args.m.now).len old c.args.value (omega (arith, c.requires)) _ c.args.tell (at_rest told))
