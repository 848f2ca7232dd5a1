-- The end is announced: what every image is on the way, and what the medium keeps behind it.
use Rattle.std.proofs.Common.{◌≡◌, ℕ, ◌≤◌, true, false, IsTrue, List, [], ◌∷◌, ◌++◌, refl, sym, ap, ◌∙◌, subst, ⊎_elim, arith, Result, Ok, Err}
use Rattle.std.specs.Prelude.{◌↔◌, IsErrOf, IfOk, OnOk, is_ok}
use Rattle.dude_base.specs.Image.{image_words}
use Rattle.pmem_trait.specs.Words.{State, AtLeast, after_all}
use Rattle.pmem_trait.specs.Sights.{Sight, state_now, AtEveryMoment}
use Rattle.redo_record.specs.LogState.{HoldsLog, RecoversAmong}
use Rattle.pmem_trait.proofs.Runs.{made_here}
use Rattle.pmem_trait.proofs.Told.{IsIn-drop_push}
use Rattle.redo_record.specs.BackCalls.{announce_calls}
use Rattle.redo_record.proofs.HeldLog.{announce_law}
use Rattle.back_store.specs.Backlog.{IsLawful, log_of}
use Rattle.back_store.specs.Back.{BackState, IsEnd, home_now}
use Rattle.back_store.specs.Answers.{Announces, announced, answered}
use Rattle.back_store.specs.Images.{HomeStays, HoldsStore, StillHoldsStore, RecoversOnTheWay}
use Rattle.back_store.specs.declared.back_fault.BackFault.{BackFault}
use Rattle.back_store.specs.declared.back_fault.BackFault.TheVariants.{RingFull, Device, Dead}
use Rattle.back_store.specs.Told.{WereTold}
use Rattle.back_store.proofs.KeptLogs.{durable_upto, told_upto, keeps_behind, home_behind, keeps_dead, keeps_same, moments_answered, ends_same, alive_from}
use Rattle.back_store.proofs.ToldNumbers.{half_tell, tells_half, tells_none, tells_one}

-- the answer is an end
pub announced_end : {v : BackState} {number : ℕ} {s t : Sight} → Announces v (Ok number) s t → IsEnd v number
announced_end {v} a = subst (IsEnd v) (sym a.answer) a.is_end

module _ (v : BackState) (lawful : IsLawful v.log) where
  -- what is told with the end is at most the end
  told_more : (before end : ℕ) (told : List ℕ) → AtLeast before told v.log.durable → IsEnd v end → AtLeast before (told ++ end ∷ []) end
  told_more before end told low is x there = ⊎_elim
      (λ old. let upto = low x old in let up = durable_upto v end lawful is in omega arith)
      (λ same. omega arith)
      (IsIn-drop_push before x end told there)

  pub announce_moments : (result : Result ℕ BackFault) (s t : Sight) → image_words v.log.sizes ≤ s.len → Announces v result s t → RecoversOnTheWay v v s t
  announce_moments result s t room a before low high alive keeps one other =
      ends_same (λ n. AtEveryMoment (RecoversAmong (log_of v.log (home_now v.log.sizes s)) before low n) s t) v low high lawful one other
      (moments_answered (RecoversAmong (log_of v.log (home_now v.log.sizes s)) before low low) result a.made (λ visible.
      (announce_law (log_of v.log (home_now v.log.sizes s)) a.end (state_now s) (keeps.holds alive visible)).0 s.len before low room one (told_upto before v low s lawful alive keeps visible one)
      (ends_same (λ n. a.end ≤ n) v a.end low lawful a.is_end one (omega arith))))

  alive_at : (result : Result ℕ BackFault) (x : ℕ) → result ≡ Ok x → (IsErrOf result Dead ↔ (v.dead ≡ true)) → v.dead ≡ false
  alive_at result x is dead = alive_from v.dead (λ was. let bad = dead.1 was in cc)

  module _ (s : Sight) (end : ℕ) (alive : v.dead ≡ false) (before : ℕ) (keeps : HoldsStore before v s) (visible : IsTrue s.is_visible) where
    held : HoldsLog (log_of v.log (home_now v.log.sizes s)) (after_all (announce_calls end) (state_now s))
    held = (announce_law (log_of v.log (home_now v.log.sizes s)) end (state_now s) (keeps.holds alive visible)).1

  untold : (w : BackState) (s t : Sight) → t ≡ s → w ≡ v → WereTold false v.log.durable w.log.durable (state_now s).told (state_now t).told
  untold w s t still is = tells_none false v.log.durable w.log.durable (state_now s).told (state_now t).told (ap (λ (u : BackState). u.log.durable) is) (ap (λ (u : Sight). (state_now u).told) still)

  pub announce_keeps : (result : Result ℕ BackFault) (s t : Sight) → Announces v result s t → (IsErrOf result Dead ↔ (v.dead ≡ true)) → StillHoldsStore v (answered result (announced v) v) s t
  announce_keeps (Ok x) s t a dead before keeps =
      let alive = alive_at (Ok x) x refl dead in
      keeps_behind before (announced v x) (home_now v.log.sizes s) a.made (held s a.end alive before keeps)
      (λ visible. subst (AtLeast before ((state_now s).told ++ a.end ∷ [])) (sym a.answer) (told_more before a.end (state_now s).told (keeps.told alive visible) a.is_end))
  announce_keeps (Err Device) s t a dead before keeps = keeps_dead before (record v { dead = true }) t refl
  announce_keeps (Err Dead) s t a dead before keeps = keeps_same before v v s t refl a.made keeps
  announce_keeps (Err (RingFull used need)) s t a dead before keeps = keeps_same before v v s t refl a.made keeps

  pub announce_home : (result : Result ℕ BackFault) (s t : Sight) → Announces v result s t → OnOk result (HomeStays v s t)
  announce_home (Ok x) s t a = λ before keeps alive visible. home_behind v (home_now v.log.sizes s) a.made visible (held s a.end alive before keeps visible)
  announce_home (Err fault) s t a = tt

  -- at Ok the answer is told
  pub announce_told : (result : Result ℕ BackFault) (s t : Sight) → Announces v result s t → IfOk result (λ number. IsTrue s.is_visible → (state_now t).told ≡ (state_now s).told ++ number ∷ [])
  announce_told (Ok x) s t a = λ visible. ap (λ (p : State). p.told) (made_here a.made visible) ∙ ap (λ n. (state_now s).told ++ n ∷ []) (sym a.answer)
  announce_told (Err fault) s t a = tt

  -- and is the durable number then
  pub announce_were_told : (result : Result ℕ BackFault) (w : BackState) (s t : Sight) → Announces v result s t → w ≡ answered result (announced v) v → IsTrue s.is_visible
      → WereTold (is_ok result) v.log.durable w.log.durable (state_now s).told (state_now t).told
  announce_were_told (Ok x) w s t a is visible =
      tells_one true v.log.durable w.log.durable (state_now s).told (state_now t).told
      (announce_told (Ok x) s t a visible ∙ ap (λ n. (state_now s).told ++ n ∷ []) (sym (ap (λ (u : BackState). u.log.durable) is)))
  announce_were_told (Err Device) w s t a is visible =
      tells_half v.log.durable w.log.durable a.end (state_now s).told (state_now t).told (ap (λ (u : BackState). u.log.durable) is) (durable_upto v a.end lawful a.is_end) (half_tell a.made visible)
  announce_were_told (Err Dead) w s t a is visible = untold w s t a.made is
  announce_were_told (Err (RingFull used need)) w s t a is visible = untold w s t a.made is
