-- A bundle of the next numbers is persisted.
use Rattle.std.proofs.Common.{◌≡◌, ◌⊎◌, ℕ, ◌+◌, ◌*◌, ◌<◌, ◌≤◌, true, false, IsTrue, [], All, Result, Err, refl, sym, ap, ◌∙◌, subst, ⊎_elim, arith}
use Rattle.std.specs.Prelude.{◌↔◌, IsErrOf}
use Rattle.dude_base.specs.declared.limits.TheConstants.{MAX_NUMBER}
use Rattle.dude_base.specs.Records.{RedoBundle, first_of}
use Rattle.pmem_trait.specs.Sights.{Sight, state_now, CallsMade, CallsMade.none}
use Rattle.log_ring.specs.Ring.{next_head}
use Rattle.back_store.specs.Lanes.{lane_at}
use Rattle.back_store.specs.Back.{BackState, IsRingFull, home_now, ring_full}
use Rattle.back_store.specs.Answers.{CallsAnswered, answered, persist_calls, with_record}
use Rattle.back_store.specs.Images.{HomeStays, StillHoldsStore, RecoversOnTheWay}
use Rattle.back_store.specs.declared.back_fault.BackFault.{BackFault}
use Rattle.back_store.specs.declared.back_fault.BackFault.TheVariants.{RingFull, Device, Dead}
use Rattle.log_numbered.specs.Arrays.{LeadsToLast, RunArrays, array_at}
use Rattle.log_numbered.specs.Backs.{Any, Carries, CarriesOn, LogGoesOn, HoldsArrays, LeadsUpTo, RecoversAlong, WasFull}
use Rattle.log_numbered.proofs.GoingOn.{by_device, failed_untold, visible_before, went_on}
use Rattle.log_numbered.proofs.HeldArrays.{holds_added, moments_less, recovers_in}
use Rattle.log_numbered.proofs.LedLogs.{end_added, leads_added}
use Rattle.back_store.proofs.NoTells.{append_tells_nothing, told_same}
use Rattle.back_store.proofs.ToldNumbers.{tells_none}

module _ (v : BackState) (end : ℕ) (s : Sight) (leads : LeadsUpTo v end) (ring : ℕ) (b : RedoBundle) (below : ring < v.log.sizes.rings) (next : first_of b ≡ end + 1) where
  held : (t : Sight) (before : ℕ) (a : RunArrays) → LeadsToLast a end b → Carries before a v end s → IsTrue s.is_visible → home_now v.log.sizes t ≡ home_now v.log.sizes s → HoldsArrays a (with_record ring b v) t
  held t before a to is visible same =
      holds_added v end leads ring b below next a s t (to.array ∙ ap (array_at a) (sym to.last)) same (is.holds visible)

  -- at each moment
  pub persist_recovers : (t : Sight) → RecoversOnTheWay v (with_record ring b v) s t → RecoversAlong (λ a. LeadsToLast a end b) v end s t
  persist_recovers t way before a to is = moments_less
      (λ visible told image here. let last = to.last in recovers_in (with_record ring b v) a s before end b.last told image (held s before a to is visible refl) (omega arith) here)
      (way before end b.last leads.alive is.keeps leads.end (end_added v end leads ring b below next))

  module _ (w : BackState) (t : Sight) (len : t.len ≡ s.len) where
    module _ (state : w ≡ with_record ring b v) where
      pub persisted_leads : (IsRingFull v ring b → ⊥) → b.last ≤ MAX_NUMBER → All (λ x. x.at < v.log.sizes.pages * 64) b.writes → LeadsUpTo w b.last
      persisted_leads room small home = subst (λ x. LeadsUpTo x b.last) (sym state) (leads_added v end leads ring b below next room small home)

      pub persisted_goes : CallsMade (persist_calls v ring b) true s t → LogGoesOn true v s w t
      persisted_goes made =
          let durable : w.log.durable ≡ v.log.durable = ap (λ (x : BackState). x.log.durable) state in
          went_on v w s t len (ap (λ (x : BackState). x.log.sizes) state) (omega arith)
          (persist_calls v ring b, made)
          (λ visible. tells_none true v.log.durable w.log.durable (state_now s).told (state_now t).told durable
          (told_same made (append_tells_nothing v.log.sizes (next_head (lane_at v.log.lanes ring).ring) b) visible))

      pub persisted : LogGoesOn true v s w t → StillHoldsStore v w s t → HomeStays v s t → CarriesOn (λ a. LeadsToLast a end b) v end s w b.last t
      persisted goes keeps stays before a to is = record {
        from = (let from = is.from in omega arith);
        upto = (let last = to.last in omega arith);
        keeps = keeps before is.keeps;
        holds = λ visible.
            let here = visible_before goes visible in
            subst (λ x. HoldsArrays a x t) (sym state) (held t before a to is here (stays before is.keeps leads.alive here));
      }

    -- the ring had no room
    module _ (fault : BackFault) (used need : ℕ) (is : fault ≡ RingFull used need) (answer : w ≡ answered {X = Unit {0}} (Err fault) (λ done. with_record ring b v) v)
        (calls : CallsAnswered {X = Unit {0}} (Err fault) (persist_calls v ring b) s t) where
      state : w ≡ v
      state = subst (λ f. w ≡ answered {X = Unit {0}} (Err f) (λ done. with_record ring b v) v) is answer

      same : t ≡ s
      same = subst (λ f. CallsAnswered {X = Unit {0}} (Err f) (persist_calls v ring b) s t) is calls

      pub full_leads : LeadsUpTo w end
      full_leads = subst (λ x. LeadsUpTo x end) (sym state) leads

      pub full_goes : LogGoesOn true v s w t
      full_goes = went_on v w s t len (ap (λ (x : BackState). x.log.sizes) state)
          (let durable : w.log.durable ≡ v.log.durable = ap (λ (x : BackState). x.log.durable) state in omega arith)
          ([], subst (λ u. CallsMade [] true s u) (sym same) none)
          (λ visible. tells_none true v.log.durable w.log.durable (state_now s).told (state_now t).told (ap (λ (x : BackState). x.log.durable) state) (ap (λ (u : Sight). (state_now u).told) same))

      pub was_full : (fault ≡ ring_full v ring b) ⊎ (fault ≡ Device) ⊎ (fault ≡ Dead)
          → (let result : Result (Unit {0}) BackFault = Err fault in IsErrOf result (ring_full v ring b) ↔ ((v.dead ≡ false) × IsRingFull v ring b)) → WasFull ring b v end s w end t
      was_full which full = record {
        full = ⊎_elim (λ here. (full.0 (ap Err here)).1) (λ others. absurd (⊎_elim (λ device. let both = sym is ∙ device in cc) (λ dead. let both = sym is ∙ dead in cc) others)) which;
        back = state;
        end_stays = refl;
        sight = same;
      }

    -- the call failed
    pub persist_failed : (fault : BackFault) → (fault ≡ Device) ⊎ (fault ≡ Dead) → (let result : Result (Unit {0}) BackFault = Err fault in IsErrOf result Dead ↔ (v.dead ≡ true))
        → w ≡ answered {X = Unit {0}} (Err fault) (λ done. with_record ring b v) v → CallsAnswered {X = Unit {0}} (Err fault) (persist_calls v ring b) s t → LogGoesOn false v s w t
    persist_failed fault which dead state calls =
        let device : fault ≡ Device = by_device fault v which (λ is. dead.0 (ap Err is)) leads.alive in
        let is : w ≡ record v { dead = true } = subst (λ f. w ≡ answered {X = Unit {0}} (Err f) (λ done. with_record ring b v) v) device state in
        let made : CallsMade (persist_calls v ring b) false s t = subst (λ f. CallsAnswered {X = Unit {0}} (Err f) (persist_calls v ring b) s t) device calls in
        failed_untold v w s t (persist_calls v ring b) len is made (append_tells_nothing v.log.sizes (next_head (lane_at v.log.lanes ring).ring) b)

-- a full ring leaves the arrays
pub carries_full : {ring : ℕ} {b : RedoBundle} (v w : BackState) (e f : ℕ) (s t : Sight) → WasFull ring b v e s w f t → CarriesOn Any v e s w f t
carries_full v w e f s t full before a any is =
    subst (λ u. Carries before a w f u) (sym full.sight) (subst (λ n. Carries before a w n s) (sym full.end_stays) (subst (λ x. Carries before a x e s) (sym full.back) is))
