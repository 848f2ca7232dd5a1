-- The last number persisted is announced.
use Rattle.std.proofs.Common.{◌≡◌, ◌⊎◌, ℕ, true, false, IsTrue, length, Result, Ok, Err, sym, ap, ◌∙◌, subst, arith}
use Rattle.std.specs.Prelude.{◌↔◌, IsErrOf}
use Rattle.pmem_trait.specs.Sights.{Sight, state_now, CallsMade}
use Rattle.redo_record.specs.BackCalls.{announce_calls}
use Rattle.redo_record.specs.Waiting.{IsArrayAt}
use Rattle.redo_record.proofs.WaitingRecords.{waiting_law}
use Rattle.back_store.specs.Back.{BackState, IsEnd, home_now, waiting_now}
use Rattle.back_store.specs.Answers.{Announces, CallsAnswered, announced, answered}
use Rattle.back_store.specs.Images.{HomeStays, StillHoldsStore}
use Rattle.back_store.specs.Told.{WereTold}
use Rattle.back_store.specs.declared.back_fault.BackFault.{BackFault}
use Rattle.back_store.specs.declared.back_fault.BackFault.TheVariants.{Device, Dead}
use Rattle.log_numbered.specs.Arrays.{RunArrays}
use Rattle.log_numbered.specs.Backs.{Any, CarriesOn, LogGoesOn, HoldsArrays, LeadsUpTo}
use Rattle.log_numbered.proofs.GoingOn.{by_device, carried_on, failed, went_on}
use Rattle.log_numbered.proofs.LedLogs.{durable_least, leads_announced}

-- an announcement leaves the arrays
holds_announced : (v : BackState) (number : ℕ) (a : RunArrays) (s t : Sight) → home_now v.log.sizes t ≡ home_now v.log.sizes s → HoldsArrays a v s → HoldsArrays a (announced v number) t
holds_announced v number a s t same holds = record {
  from = holds.from;
  size = holds.size ∙ ap length (sym same);
  arrays = λ n array is. holds.arrays n array (subst (λ h. IsArrayAt (waiting_now v) v.log.reproduced h n array) same is);
}

module _ (v w : BackState) (end : ℕ) (s t : Sight) (leads : LeadsUpTo v end) (len : t.len ≡ s.len) where
  module _ (number : ℕ) (state : w ≡ announced v number) (is_end : IsEnd v number) where
    pub announced_last : number ≡ end
    announced_last = waiting_law.one_end (waiting_now v) v.log.reproduced number end leads.lawful.lanes.distinct is_end leads.end

    pub announced_durable : w.log.durable ≡ end
    announced_durable = ap (λ (x : BackState). x.log.durable) state ∙ announced_last

    pub announced_back : w ≡ announced v end
    announced_back = state ∙ ap (λ n. announced v n) announced_last

    pub announced_leads : LeadsUpTo w end
    announced_leads = subst (λ x. LeadsUpTo x end) (sym announced_back) (leads_announced v end leads)

    pub announced_goes : Announces v (Ok number) s t → (IsTrue s.is_visible → WereTold true v.log.durable w.log.durable (state_now s).told (state_now t).told) → LogGoesOn true v s w t
    announced_goes a tells = went_on v w s t len (ap (λ (x : BackState). x.log.sizes) state)
        (let up = durable_least v end leads in let now = announced_durable in omega arith)
        (announce_calls a.end, a.made)
        tells

    pub announced_carries : LogGoesOn true v s w t → StillHoldsStore v w s t → HomeStays v s t → CarriesOn Any v end s w end t
    announced_carries goes keeps stays = carried_on v w end s t goes keeps
        (λ before a is here. subst (λ x. HoldsArrays a x t) (sym state) (holds_announced v number a s t (stays before is.keeps leads.alive here) (is.holds here)))

  -- the call failed
  pub announce_failed : (fault : BackFault) → (fault ≡ Device) ⊎ (fault ≡ Dead) → (let result : Result ℕ BackFault = Err fault in IsErrOf result Dead ↔ (v.dead ≡ true)) → w ≡ answered (Err fault) (announced v) v
      → Announces v (Err fault) s t → (IsTrue s.is_visible → WereTold false v.log.durable w.log.durable (state_now s).told (state_now t).told) → LogGoesOn false v s w t
  announce_failed fault which dead state a tells =
      let device : fault ≡ Device = by_device fault v which (λ is. dead.0 (ap Err is)) leads.alive in
      let is : w ≡ record v { dead = true } = subst (λ f. w ≡ answered (Err f) (announced v) v) device state in
      let made : CallsMade (announce_calls a.end) false s t = subst (λ f. CallsAnswered {X = ℕ} (Err f) (announce_calls a.end) s t) device a.made in
      failed v w s t (announce_calls a.end) len is made tells
