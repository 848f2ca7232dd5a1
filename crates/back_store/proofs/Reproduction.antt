-- Records are reproduced: what every image is on the way, and what the medium keeps behind it.
use Rattle.std.proofs.Common.{◌≡◌, ◌⊎◌, ℕ, ◌≤◌, true, false, IsTrue, List, [], refl, sym, ap, ◌∙◌, subst, inl, inr, arith, Result, Ok, Err, eq-eqb, ne_eqb}
use Rattle.std.specs.Prelude.{◌↔◌, IsErrOf, IfOk}
use Rattle.dude_base.specs.declared.limits.TheConstants.{MARK}
use Rattle.dude_base.specs.declared.write.Write.{Write}
use Rattle.dude_base.specs.Records.{RedoBundle}
use Rattle.dude_base.specs.Writes.{overwritten}
use Rattle.dude_base.specs.Image.{image_words}
use Rattle.pmem_trait.specs.declared.call.Call.{Call}
use Rattle.pmem_trait.specs.Words.{State, AtLeast, EveryImage, AfterEachCall, AfterEachCall.end, after_all}
use Rattle.pmem_trait.specs.Sights.{Sight, state_now, CallsMade, CallsMade.none, AtEveryMoment}
use Rattle.pmem_trait.proofs.Laws.{every_moment_here}
use Rattle.pmem_trait.proofs.Runs.{made_here}
use Rattle.redo_record.specs.LogState.{HoldsLog, RecoversAmong, RingRecords}
use Rattle.redo_record.specs.Waiting.{IsArrayAt}
use Rattle.redo_record.specs.BackCalls.{reproduce_calls}
use Rattle.redo_record.specs.BackLaws.{CanReproduce, HaveReleased, reproduced_to}
use Rattle.redo_record.proofs.HeldLog.{released_rings_law}
use Rattle.redo_record.proofs.Reproducing.{reproduce_law, reproduced_law}
use Rattle.redo_record.proofs.WaitingRecords.{waiting_law}
use Rattle.back_store.specs.Lane.{LaneState}
use Rattle.back_store.specs.Lanes.{no_lane, rings_of, waiting_of}
use Rattle.back_store.specs.Backlog.{IsLawful, StopsAfter, log_of, without_records_to}
use Rattle.back_store.proofs.ReleasedRecords.{lane_released, released_waiting}
use Rattle.back_store.specs.Back.{BackState, IsEnd, home_now, waiting_now}
use Rattle.back_store.specs.Answers.{CallsAnswered, ReproducedBy, Reproduces, ReproducesUnlessDead, answered, reproduced}
use Rattle.back_store.specs.Images.{HasReproduced, IsReproduced, HoldsStore, StillHoldsStore, RecoversOnTheWay}
use Rattle.back_store.specs.declared.back_fault.BackFault.{BackFault}
use Rattle.back_store.specs.declared.back_fault.BackFault.TheVariants.{RingFull, Device, Dead}
use Rattle.back_store.proofs.KeptLogs.{told_upto, keeps_behind, home_behind, keeps_dead, keeps_same, moments_answered, images_here, ends_same, alive_from}

abbrev ring_records : LaneState → RingRecords
ring_records u = record { logged = u.ring.logged; released = u.ring.released }

module _ (v : BackState) (lawful : IsLawful v.log) (number : ℕ) where
  abbrev after_them : BackState
  after_them = record v { log = without_records_to number v.log }

  released_rings : HaveReleased v.log.sizes number (rings_of v.log.lanes) (rings_of after_them.log.lanes)
  released_rings ring lt = ap ring_records (lane_released number v.log.lanes ring no_lane no_lane (let count = lawful.lanes.count in omega arith))

  module _ (records : List RedoBundle) (ws : List Write) (home : List ℕ) (can : CanReproduce (log_of v.log home) records ws number) (p : State) (holds : HoldsLog (log_of v.log home) p) where
    -- behind the calls the medium holds the log without these records
    held : HoldsLog (log_of after_them.log (overwritten ws home)) (after_all (reproduce_calls v.log.sizes ws number) p)
    held = released_rings_law (reproduced_to (log_of v.log home) ws number (waiting_of after_them.log.lanes)) number (rings_of after_them.log.lanes) (after_all (reproduce_calls v.log.sizes ws number) p)
        (reproduce_law (log_of v.log home) records ws number (waiting_of after_them.log.lanes) p holds can (released_waiting number v.log.lanes)).1 (omega arith) released_rings

    same_told : (after_all (reproduce_calls v.log.sizes ws number) p).told ≡ p.told
    same_told = (reproduce_law (log_of v.log home) records ws number (waiting_of after_them.log.lanes) p holds can (released_waiting number v.log.lanes)).2

  -- the writes may stand for the records
  can_by : {calls : List Call} (home : List ℕ) → (by : ReproducedBy v number calls) → CanReproduce (log_of v.log home) by.records by.writes number
  can_by home by = record { lead = by.lead; rising = by.stand.rising; effect = λ array _. by.stand.effect array }

  pub reproduce_moments : (result : Result ℕ BackFault) (s t : Sight) → image_words v.log.sizes ≤ s.len → Reproduces v number result s t → RecoversOnTheWay v v s t
  reproduce_moments result s t room r before low high alive keeps one other =
      ends_same (λ n. AtEveryMoment (RecoversAmong (log_of v.log (home_now v.log.sizes s)) before low n) s t) v low high lawful one other
      (moments_answered (RecoversAmong (log_of v.log (home_now v.log.sizes s)) before low low) result r.made (λ visible. along before low s r.calls room alive keeps one visible r.by))
    where
      along : (before low : ℕ) (s : Sight) (calls : List Call) → image_words v.log.sizes ≤ s.len → v.dead ≡ false → HoldsStore before v s → IsEnd v low → IsTrue s.is_visible
          → ((number ≡ v.log.reproduced) × (calls ≡ [])) ⊎ ReproducedBy v number calls → AfterEachCall (EveryImage s.len (RecoversAmong (log_of v.log (home_now v.log.sizes s)) before low low)) (state_now s) calls
      along before low s calls room alive keeps one visible (inl nothing) = rw nothing.1 (end (images_here before low v s lawful room alive keeps one visible))
      along before low s calls room alive keeps one visible (inr by) = rw by.calls_are
          ((reproduce_law (log_of v.log (home_now v.log.sizes s)) by.records by.writes number (waiting_of after_them.log.lanes) (state_now s) (keeps.holds alive visible) (can_by (home_now v.log.sizes s) by) (released_waiting number v.log.lanes)).0
          s.len before low room one (told_upto before v low s lawful alive keeps visible one))

  no_calls : {s t : Sight} → CallsMade [] true s t → t ≡ s
  no_calls none = refl

  nothing_left : (x : ℕ) → x ≡ v.log.reproduced → reproduced v x ≡ v
  nothing_left x same = rw (eq-eqb x v.log.reproduced same) refl

  them_left : (x : ℕ) → x ≡ number → (number ≡ v.log.reproduced → ⊥) → reproduced v x ≡ after_them
  them_left x same some = ap (reproduced v) same ∙ rw (ne_eqb number v.log.reproduced some) refl

  alive_at : (result : Result ℕ BackFault) (x : ℕ) → result ≡ Ok x → (IsErrOf result Dead ↔ (v.dead ≡ true)) → v.dead ≡ false
  alive_at result x is dead = alive_from v.dead (λ was. let bad = dead.1 was in cc)

  keeps_by : (before x : ℕ) (s t : Sight) (calls : List Call) → v.dead ≡ false → x ≡ number → CallsMade calls true s t → ((number ≡ v.log.reproduced) × (calls ≡ [])) ⊎ ReproducedBy v number calls → HoldsStore before v s → HoldsStore before (reproduced v x) t
  keeps_by before x s t calls alive is made (inl nothing) keeps = keeps_same before v (reproduced v x) s t (nothing_left x (is ∙ nothing.0)) (no_calls (subst (λ cs. CallsMade cs true s t) nothing.1 made)) keeps
  keeps_by before x s t calls alive is made (inr by) keeps =
      let home : List ℕ = home_now v.log.sizes s in
      subst (λ w. HoldsStore before w t) (sym (them_left x is by.some))
      (keeps_behind before after_them (overwritten by.writes home) (subst (λ cs. CallsMade cs true s t) by.calls_are made)
      (λ visible. held by.records by.writes home (can_by home by) (state_now s) (keeps.holds alive visible))
      (λ visible. subst (λ ns. AtLeast before ns v.log.durable) (sym (same_told by.records by.writes home (can_by home by) (state_now s) (keeps.holds alive visible))) (keeps.told alive visible)))

  pub reproduce_keeps : (result : Result ℕ BackFault) (s t : Sight) → Reproduces v number result s t → (IsErrOf result Dead ↔ (v.dead ≡ true)) → StillHoldsStore v (answered result (reproduced v) v) s t
  reproduce_keeps (Ok x) s t r dead before keeps = keeps_by before x s t r.calls (alive_at (Ok x) x refl dead) r.answer r.made r.by keeps
  reproduce_keeps (Err Device) s t r dead before keeps = keeps_dead before (record v { dead = true }) t refl
  reproduce_keeps (Err Dead) s t r dead before keeps = keeps_same before v v s t refl r.made keeps
  reproduce_keeps (Err (RingFull used need)) s t r dead before keeps = keeps_same before v v s t refl r.made keeps

  home_by : (before x : ℕ) (s t : Sight) (calls : List Call) → v.dead ≡ false → x ≡ number → CallsMade calls true s t → ((number ≡ v.log.reproduced) × (calls ≡ [])) ⊎ ReproducedBy v number calls → HoldsStore before v s → IsTrue s.is_visible
      → IsReproduced v (reproduced v x) x s t
  home_by before x s t calls alive is made (inl nothing) keeps visible =
      let here : x ≡ v.log.reproduced = is ∙ nothing.0 in
      let still : t ≡ s = no_calls (subst (λ cs. CallsMade cs true s t) nothing.1 made) in
      let idle : IsReproduced v v v.log.reproduced s s = record {
        home = record { records = []; lead = waiting_law.here (waiting_now v) v.log.reproduced; result = refl };
        mark = (keeps.holds alive visible).rest.mark;
        arrays = λ n array le is. is;
      } in
      subst (λ w. IsReproduced v w x s t) (sym (nothing_left x here)) (subst (λ n. IsReproduced v v n s t) (sym here) (subst (λ u. IsReproduced v v v.log.reproduced s u) (sym still) idle))
  home_by before x s t calls alive is made (inr by) keeps visible =
      let home : List ℕ = home_now v.log.sizes s in
      let holds : HoldsLog (log_of v.log home) (state_now s) = keeps.holds alive visible in
      let there : CallsMade (reproduce_calls v.log.sizes by.writes number) true s t = subst (λ cs. CallsMade cs true s t) by.calls_are made in
      let behind : HoldsLog (log_of after_them.log (overwritten by.writes home)) (after_all (reproduce_calls v.log.sizes by.writes number) (state_now s)) = held by.records by.writes home (can_by home by) (state_now s) holds in
      let new_home : home_now v.log.sizes t ≡ overwritten by.writes home = home_behind after_them (overwritten by.writes home) there visible behind in
      let law = reproduced_law (log_of v.log home) by.records by.writes number (waiting_of after_them.log.lanes) lawful.lanes.distinct holds.rest.count (can_by home by) (released_waiting number v.log.lanes) in
      let done : IsReproduced v after_them number s t = record {
        home = subst (λ h. IsArrayAt (waiting_now v) v.log.reproduced home number h) (sym new_home) law.2;
        mark = ap (λ (p : State). p.word MARK) (made_here there visible) ∙ behind.rest.mark;
        arrays = λ n array le is. subst (λ h. IsArrayAt (waiting_now after_them) number h n array) (sym new_home) (law.1 n array le is);
      } in
      subst (λ w. IsReproduced v w x s t) (sym (them_left x is by.some)) (subst (λ n. IsReproduced v after_them n s t) (sym is) done)

  pub reproduce_home : (result : Result ℕ BackFault) (w : BackState) (s t : Sight) → w ≡ answered result (reproduced v) v → Reproduces v number result s t → IfOk result (λ x. HasReproduced v w x s t)
  reproduce_home (Ok x) w s t is r = λ before keeps alive visible.
      subst (λ u. IsReproduced v u x s t) (sym is) (home_by before x s t r.calls alive r.answer r.made r.by keeps visible)
  reproduce_home (Err fault) w s t is r = tt

-- ---- the same where the number is the one at which the reproduction stops

-- the calls that were made
pub stop_calls : (v : BackState) (most : ℕ) (result : Result ℕ BackFault) (s t : Sight) → ReproducesUnlessDead v most result s t → (calls : List Call) × CallsAnswered result calls s t
stop_calls v most (Ok x) s t up = (up.made.calls, up.made.made)
stop_calls v most (Err Device) s t up = (up.made.calls, up.made.made)
stop_calls v most (Err Dead) s t still = ([], still)
stop_calls v most (Err (RingFull used need)) s t still = ([], still)

pub stop_answer : (v : BackState) (most : ℕ) (result : Result ℕ BackFault) (s t : Sight) → ReproducesUnlessDead v most result s t → IfOk result (StopsAfter v.log most)
stop_answer v most (Ok x) s t up = subst (StopsAfter v.log most) (sym up.made.answer) up.stops
stop_answer v most (Err fault) s t up = tt

module _ (v : BackState) (lawful : IsLawful v.log) (most : ℕ) (s t : Sight) where
  -- no call was made
  moments_still : image_words v.log.sizes ≤ s.len → t ≡ s → RecoversOnTheWay v v s t
  moments_still room still before low high alive keeps one other =
      let P : List ℕ → List ℕ → Type 0 = RecoversAmong (log_of v.log (home_now v.log.sizes s)) before low high in
      subst (λ u. AtEveryMoment P s u) (sym still) (every_moment_here P (λ visible.
      ends_same (λ n. EveryImage s.len (RecoversAmong (log_of v.log (home_now v.log.sizes s)) before low n) (state_now s)) v low high lawful one other
      (images_here before low v s lawful room alive keeps one visible)))

  pub stop_moments : (result : Result ℕ BackFault) → image_words v.log.sizes ≤ s.len → ReproducesUnlessDead v most result s t → RecoversOnTheWay v v s t
  stop_moments (Ok x) room up = reproduce_moments v lawful up.stop (Ok x) s t room up.made
  stop_moments (Err Device) room up = reproduce_moments v lawful up.stop (Err Device) s t room up.made
  stop_moments (Err Dead) room still = moments_still room still
  stop_moments (Err (RingFull used need)) room still = moments_still room still

  pub stop_keeps : (result : Result ℕ BackFault) → (IsErrOf result Dead ↔ (v.dead ≡ true)) → ReproducesUnlessDead v most result s t → StillHoldsStore v (answered result (reproduced v) v) s t
  stop_keeps (Ok x) dead up = reproduce_keeps v lawful up.stop (Ok x) s t up.made dead
  stop_keeps (Err Device) dead up = reproduce_keeps v lawful up.stop (Err Device) s t up.made dead
  stop_keeps (Err Dead) dead still = λ before keeps. keeps_same before v v s t refl still keeps
  stop_keeps (Err (RingFull used need)) dead still = λ before keeps. keeps_same before v v s t refl still keeps

  pub stop_home : (result : Result ℕ BackFault) (w : BackState) → w ≡ answered result (reproduced v) v → ReproducesUnlessDead v most result s t → IfOk result (λ x. HasReproduced v w x s t)
  stop_home (Ok x) w is up = reproduce_home v lawful up.stop (Ok x) w s t is up.made
  stop_home (Err fault) w is up = tt
