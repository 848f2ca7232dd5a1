-- All that waits is reproduced.
use Rattle.std.proofs.Common.{◌≡◌, ◌⊎◌, ℕ, ◌≤◌, true, false, IsTrue, List, [], All, Result, Ok, Err, sym, ap, ◌∙◌, subst, inl, inr, arith}
use Rattle.std.specs.Prelude.{◌↔◌, IsErrOf}
use Rattle.std.proofs.lemmas.List.Elements.{All-nil}
use Rattle.dude_base.specs.declared.limits.TheConstants.{MAX_NUMBER}
use Rattle.pmem_trait.specs.declared.call.Call.{Call}
use Rattle.pmem_trait.specs.Sights.{Sight, state_now}
use Rattle.back_store.specs.Backlog.{StopsAfter}
use Rattle.back_store.specs.Back.{BackState, home_now}
use Rattle.back_store.specs.Answers.{ReproducedBy, ReproducesUnlessDead, ReproducesUpTo, answered, reproduced}
use Rattle.back_store.specs.Images.{HasReproduced, StillHoldsStore}
use Rattle.back_store.specs.declared.back_fault.BackFault.{BackFault}
use Rattle.back_store.specs.declared.back_fault.BackFault.TheVariants.{Device, Dead}
use Rattle.log_numbered.specs.Arrays.{array_at}
use Rattle.log_numbered.specs.Backs.{Any, CarriesOn, LogGoesOn, HomeIsAt, LeadsUpTo}
use Rattle.log_numbered.proofs.GoingOn.{by_device, carried_on, failed_untold, went_on}
use Rattle.log_numbered.proofs.HeldArrays.{holds_reproduced}
use Rattle.log_numbered.proofs.LedLogs.{Reproduced, durable_least, leads_reproduced, none_waits, numbers_reproduced, reproduced_least, stop_last}
use Rattle.back_store.proofs.NoTells.{TellsNothing, reproduce_tells_nothing, told_same}
use Rattle.back_store.proofs.ToldNumbers.{tells_none}

-- a reproduction tells nothing
untold : {v : BackState} {number : ℕ} {calls : List Call} → ((number ≡ v.log.reproduced) × (calls ≡ [])) ⊎ ReproducedBy v number calls → All TellsNothing calls
untold (inl nothing) = subst (All TellsNothing) (sym nothing.1) (All-nil TellsNothing)
untold {v} {number} (inr by) = subst (All TellsNothing) (sym by.calls_are) (reproduce_tells_nothing v.log.sizes by.writes number)

module _ (v w : BackState) (end : ℕ) (s t : Sight) (alive : LeadsUpTo v end) (len : t.len ≡ s.len) (most : ℕ) (great : MAX_NUMBER ≤ most) (all : v.log.durable ≡ end) where
  module _ (number : ℕ) (state : w ≡ reproduced v number) (answer : StopsAfter v.log most number) where
    is_last : number ≡ end
    is_last = stop_last v end alive most number great all answer

    pub reproduced_back : w ≡ reproduced v end
    reproduced_back = state ∙ ap (λ n. reproduced v n) is_last

    numbers : Reproduced v end alive w
    numbers = subst (λ x. Reproduced v end alive x) (sym state) (numbers_reproduced v end alive number is_last)

    pub all_numbers : (w.log.durable ≡ end) × (w.log.reproduced ≡ end)
    all_numbers = (numbers.durable ∙ all, numbers.reproduced)

    pub reproduced_leads : LeadsUpTo w end
    reproduced_leads = subst (λ x. LeadsUpTo x end) (sym state) (leads_reproduced v end alive all number is_last)

    pub reproduced_told : ReproducesUpTo v most (Ok number) s t → IsTrue s.is_visible → (state_now t).told ≡ (state_now s).told
    reproduced_told r visible = told_same r.made.made (untold r.made.by) visible

    pub reproduced_goes : ReproducesUpTo v most (Ok number) s t → LogGoesOn true v s w t
    reproduced_goes r = went_on v w s t len numbers.sizes (let same = numbers.durable in omega arith) (r.made.calls, r.made.made)
        (λ visible. tells_none true v.log.durable w.log.durable (state_now s).told (state_now t).told numbers.durable (reproduced_told r visible))

    low : v.log.reproduced ≤ number
    low = let d = durable_least v end alive in let e = reproduced_least v end alive in let there = is_last in omega arith

    pub reproduced_carries : LogGoesOn true v s w t → StillHoldsStore v w s t → HasReproduced v w number s t → CarriesOn Any v end s w end t
    reproduced_carries goes keeps done = carried_on v w end s t goes keeps
        (λ before a is here. holds_reproduced v w number a s t numbers.sizes (numbers.reproduced ∙ sym is_last) low (none_waits w end reproduced_leads numbers.reproduced) (done before is.keeps alive.alive here) (is.holds here))

    pub reproduced_home : HasReproduced v w number s t → HomeIsAt v end s t
    reproduced_home done before a is visible =
        (is.holds visible).arrays number (home_now v.log.sizes t) (done before is.keeps alive.alive visible).home ∙ ap (array_at a) is_last

  -- the call failed
  pub reproduce_failed : (fault : BackFault) → (fault ≡ Device) ⊎ (fault ≡ Dead) → (let result : Result ℕ BackFault = Err fault in IsErrOf result Dead ↔ (v.dead ≡ true)) → w ≡ answered (Err fault) (reproduced v) v
      → ReproducesUnlessDead v most (Err fault) s t → LogGoesOn false v s w t
  reproduce_failed fault which dead state calls =
      let device : fault ≡ Device = by_device fault v which (λ is. dead.0 (ap Err is)) alive.alive in
      let is : w ≡ record v { dead = true } = subst (λ f. w ≡ answered (Err f) (reproduced v) v) device state in
      let r : ReproducesUpTo v most (Err Device) s t = subst (λ f. ReproducesUnlessDead v most (Err f) s t) device calls in
      failed_untold v w s t r.made.calls len is r.made.made (untold r.made.by)
