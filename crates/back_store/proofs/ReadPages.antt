-- A page is read: the medium's state stays.
use Rattle.std.proofs.Common.{◌≡◌, ◌*◌, ◌+◌, ◌<◌, ℕ, ◌≤◌, false, IsTrue, List, sym, ap, ◌∙◌, subst, arith, Result, Ok, Err}
use Rattle.std.specs.Prelude.{OnOk, slice_index}
use Rattle.std.proofs.lemmas.List.FromFn.{get_or-map-range_with_len}
use Rattle.dude_base.specs.Image.{home_word, image_words}
use Rattle.pmem_trait.specs.Words.{State, AtLeast, EveryImage, after_all, value_of}
use Rattle.pmem_trait.specs.Sights.{Sight, state_now, AtEveryMoment}
use Rattle.pmem_trait.proofs.Laws.{after_each_weaker}
use Rattle.redo_record.specs.LogState.{HoldsLog, RecoversAmong}
use Rattle.redo_record.specs.BackCalls.{read_page_calls}
use Rattle.redo_record.proofs.HeldLog.{read_page_law}
use Rattle.std.specs.List.{range_with_len}
use Rattle.back_store.specs.Backlog.{IsLawful, log_of}
use Rattle.back_store.specs.Back.{BackState, home_now}
use Rattle.back_store.specs.Answers.{CallsAnswered, answered}
use Rattle.back_store.specs.Images.{HomeStays, HoldsStore, StillHoldsStore, RecoversOnTheWay}
use Rattle.back_store.specs.declared.back_fault.BackFault.{BackFault}
use Rattle.back_store.proofs.KeptLogs.{keeps_behind, home_behind, moments_answered, keeps_answered, images_here, ends_same, keeps_alive}
use Rattle.back_store.proofs.PageReads.{reads_state}

module _ (v : BackState) (lawful : IsLawful v.log) (page : ℕ) (inside : page < v.log.sizes.pages) where
  same_state : (p : State) → after_all (read_page_calls v.log.sizes page) p ≡ p
  same_state p = reads_state (range_with_len (home_word v.log.sizes (page * 64)) 64) p

  pub read_moments : {X : Type 0} (result : Result X BackFault) (s t : Sight) → image_words v.log.sizes ≤ s.len → CallsAnswered result (read_page_calls v.log.sizes page) s t → RecoversOnTheWay v v s t
  read_moments result s t room calls before low high alive keeps one other =
      let P : List ℕ → List ℕ → Type 0 = RecoversAmong (log_of v.log (home_now v.log.sizes s)) before low low in
      ends_same (λ n. AtEveryMoment (RecoversAmong (log_of v.log (home_now v.log.sizes s)) before low n) s t) v low high lawful one other
      (moments_answered P result calls (λ visible.
      let here = images_here before low v s lawful room alive keeps one visible in
      after_each_weaker (λ q same. subst (EveryImage s.len P) (sym same) here)
      (read_page_law (log_of v.log (home_now v.log.sizes s)) page (state_now s) (keeps.holds alive visible) inside).0))

  held : (before : ℕ) (s : Sight) → v.dead ≡ false → HoldsStore before v s → IsTrue s.is_visible → HoldsLog (log_of v.log (home_now v.log.sizes s)) (after_all (read_page_calls v.log.sizes page) (state_now s))
  held before s alive keeps visible = subst (HoldsLog (log_of v.log (home_now v.log.sizes s))) (sym (same_state (state_now s))) (keeps.holds alive visible)

  pub read_keeps : {X : Type 0} (result : Result X BackFault) (s t : Sight) → CallsAnswered result (read_page_calls v.log.sizes page) s t → StillHoldsStore v (answered result (λ done. v) v) s t
  read_keeps result s t calls before keeps = keeps_answered before v (λ done. v) result calls (λ x _ made. keeps_alive before v t (λ alive.
      keeps_behind before v (home_now v.log.sizes s) made (held before s alive keeps) (λ visible. subst (λ (p : State). AtLeast before p.told v.log.durable) (sym (same_state (state_now s))) (keeps.told alive visible)))) keeps

  pub read_home : {X : Type 0} (result : Result X BackFault) (s t : Sight) → CallsAnswered result (read_page_calls v.log.sizes page) s t → OnOk result (HomeStays v s t)
  read_home (Ok x) s t made = λ before keeps alive visible. home_behind v (home_now v.log.sizes s) made visible (held before s alive keeps visible)
  read_home (Err fault) s t made = tt

  -- the words read are those of the home
  pub page_word : (s : Sight) (i : ℕ) → i < 64 → value_of ((state_now s).word (home_word v.log.sizes (page * 64) + i)) ≡ slice_index (home_now v.log.sizes s) (page * 64 + i)
  page_word s i lt =
      let f : ℕ → ℕ = λ k. value_of ((state_now s).word (home_word v.log.sizes k)) in
      let place : home_word v.log.sizes (page * 64) + i ≡ home_word v.log.sizes (page * 64 + i) = omega arith in
      ap (λ k. value_of ((state_now s).word k)) place ∙ sym (get_or-map-range_with_len f 0 (v.log.sizes.pages * 64) (page * 64 + i) (page * 64 + i) 0 (omega arith) (omega arith))

pub read_words : {X : Type 0} (v : BackState) (page : ℕ) (inside : page < v.log.sizes.pages) (lawful : IsLawful v.log) (result : Result X BackFault) (s : Sight) (into : List ℕ)
    → OnOk result (IsTrue s.is_visible → (i : ℕ) → i < 64 → slice_index into i ≡ value_of ((state_now s).word (home_word v.log.sizes (page * 64) + i)))
    → OnOk result (IsTrue s.is_visible → (i : ℕ) → i < 64 → slice_index into i ≡ slice_index (home_now v.log.sizes s) (page * 64 + i))
read_words v page inside lawful (Ok x) s into words = λ visible i lt. words visible i lt ∙ page_word v lawful page inside s i lt
read_words v page inside lawful (Err fault) s into words = tt
