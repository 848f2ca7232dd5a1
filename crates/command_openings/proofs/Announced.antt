-- A back where nothing waits announces its number.
use Rattle.std.proofs.Common.{◌≡◌, ◌⊎◌, ℕ, true, false, IsTrue, List, [], ◌∷◌, refl, sym, ap, ◌∙◌, subst, inl, inr, arith, Result, Ok, Err}
use Rattle.dude_base.specs.declared.sizes.Sizes.{Sizes}
use Rattle.pmem_trait.specs.declared.call.Call.TheVariants.{Tell}
use Rattle.pmem_trait.specs.Words.{State}
use Rattle.pmem_trait.specs.Sights.{Sight, state_now, OneCall, CallsMade, CallsMade.stop, CallsMade.step, AtEveryMoment}
use Rattle.tatp_layout.specs.StandsFor.{StandsFor}
use Rattle.redo_record.specs.LogState.{RecoversAmong}
use Rattle.back_store.specs.Backlog.{log_of}
use Rattle.back_store.specs.Back.{BackState, IsEnd, home_now, idle}
use Rattle.back_store.specs.Answers.{Announces, CallsAnswered, announced}
use Rattle.back_store.specs.Images.{HomeStays, HoldsStore, StillHoldsStore, RecoversOnTheWay}
use Rattle.back_store.specs.declared.back_fault.BackFault.{BackFault}
use Rattle.back_store.specs.declared.back_fault.BackFault.TheVariants.{RingFull, Device, Dead}
use Rattle.dude_recover.specs.Opened.{HoldsOpened}
use Rattle.dude_engine.specs.Opening.{Opening}
use Rattle.command_openings.specs.Opens.{ShowsOpening, TellsAtMost}
use Rattle.command_openings.proofs.Images.{idle_end, idle_ends, idle_shows}

pub announced_idle : (v w : BackState) (sizes : Sizes) (number end : ℕ) → v ≡ idle sizes number → IsEnd v end → w ≡ announced v end → w ≡ idle sizes number
announced_idle v w sizes number end is end_is becomes =
    let here : end ≡ number = idle_ends sizes number end (subst (λ (v : BackState). IsEnd v end) is end_is) in
    becomes ∙ (ap (λ (v : BackState). announced v end) is ∙ ap (announced (idle sizes number)) here)

pub announced_number : (v : BackState) (sizes : Sizes) (number end : ℕ) → v ≡ idle sizes number → IsEnd v end → end ≡ number
announced_number v sizes number end is end_is = idle_ends sizes number end (subst (λ (v : BackState). IsEnd v end) is end_is)

-- the medium holds the image as before
pub announced_holds : (v w : BackState) (sizes : Sizes) (number : ℕ) (words : List ℕ) (s t : Sight) → v ≡ idle sizes number → w ≡ idle sizes number → t.is_visible ≡ s.is_visible
    → StillHoldsStore v w s t → HomeStays v s t → (before : ℕ) → HoldsOpened before sizes number words s → HoldsOpened before sizes number words t
announced_holds v w sizes number words s t is becomes visibly keeps home before holds = record {
  keeps = subst (λ (u : BackState). HoldsStore before u t) becomes (keeps before before_keeps);
  home = λ visible.
      let was : IsTrue s.is_visible = subst (λ b. IsTrue b) visibly visible in
      let stays : home_now v.log.sizes t ≡ home_now v.log.sizes s = home before before_keeps (ap (λ (u : BackState). u.dead) is) was in
      let P : Sizes → Type 0 = λ z. home_now z t ≡ home_now z s in
      subst P (ap (λ (u : BackState). u.log.sizes) is) stays ∙ holds.home was;
}
  where
    before_keeps : HoldsStore before v s
    before_keeps = subst (λ (u : BackState). HoldsStore before u s) (sym is) holds.keeps

-- at each moment every image recovers to the opening
pub announced_moments : (v : BackState) (number : ℕ) (words : List ℕ) (s t : Sight) (opening : Opening) (before : ℕ) → v ≡ idle opening.sizes number → number ≡ opening.number
    → StandsFor opening.sizes words opening.database → HoldsOpened before opening.sizes number words s → RecoversOnTheWay v v s t → AtEveryMoment (ShowsOpening false before opening) s t
announced_moments v number words s t opening before is same stands holds way =
    let resting : RecoversOnTheWay (idle opening.sizes number) (idle opening.sizes number) s t = subst (λ (u : BackState). RecoversOnTheWay u u s t) is way in
    let moments : AtEveryMoment (RecoversAmong (log_of (idle opening.sizes number).log (home_now opening.sizes s)) before number number) s t =
    resting before number number refl holds.keeps (idle_end opening.sizes number) (idle_end opening.sizes number) in
    record {
      later = moments.later;
      each = λ visible m low high. record {
        each = λ image is_image. idle_shows before number words (home_now opening.sizes s) opening (t.state m).told image same (holds.home visible) stands
            ((moments.each visible m low high).each image is_image);
      };
    }

-- exactly its number is told
pub tells_number : (v : BackState) (sizes : Sizes) (number answer : ℕ) (s t : Sight) → v ≡ idle sizes number → Announces v (Ok answer) s t → CallsMade (Tell number ∷ []) true s t
tells_number v sizes number answer s t is announces =
    subst (λ (n : ℕ). CallsMade (Tell n ∷ []) true s t) (announced_number v sizes number announces.end is announces.is_end) announces.made

-- or that failed: a back where nothing waits isn't dead
pub fails_number : (v : BackState) (fault : BackFault) (sizes : Sizes) (number : ℕ) (s t : Sight) → v ≡ idle sizes number → (fault ≡ Device) ⊎ (fault ≡ Dead)
    → (◌≡◌ {A = Result ℕ BackFault} (Err fault) (Err Dead) → v.dead ≡ true) → Announces v (Err fault) s t → CallsMade (Tell number ∷ []) false s t
fails_number v fault sizes number s t is (inr dead) only announces =
    let was : v.dead ≡ true = only (ap Err dead) in
    let alive : v.dead ≡ false = ap (λ (u : BackState). u.dead) is in
    let never : ⊥ = cc in
    absurd never
fails_number v fault sizes number s t is (inl device) only announces =
    subst (λ (n : ℕ). CallsMade (Tell n ∷ []) false s t) (announced_number v sizes number announces.end is announces.is_end)
    (subst (λ (f : BackFault). CallsAnswered {X = ℕ} (Err f) (Tell announces.end ∷ []) s t) device announces.made)

-- a failed tell told its number, or nothing
failed_tell : {number : ℕ} {s t : Sight} → OneCall (Tell number) false s t → IsTrue s.is_visible → TellsAtMost number s t
failed_tell {number} {s} {t} call visible = elim call.time [
  | inl next ↦ (call.does visible next).told
  | inr full ↦ inl (ap (λ (m : ℕ). (t.state m).told) full.1 ∙ ap (λ (x : State). x.told) (call.later.past visible s.now (omega arith)))
]

tells_at_most : {number : ℕ} {s t : Sight} → CallsMade (Tell number ∷ []) false s t → IsTrue s.is_visible → TellsAtMost number s t
tells_at_most (stop call) visible = failed_tell call visible
tells_at_most (step call rest) visible = elim rest [ ]

pub failed_announce : (v : BackState) (fault : BackFault) (sizes : Sizes) (number : ℕ) (s t : Sight) → v ≡ idle sizes number → Announces v (Err fault) s t → IsTrue s.is_visible → TellsAtMost number s t
failed_announce v fault sizes number s t is announces visible =
    by fault announces.made
  where
    here : announces.end ≡ number
    here = announced_number v sizes number announces.end is announces.is_end

    same : t ≡ s → TellsAtMost number s t
    same e = inl (ap (λ (x : Sight). (state_now x).told) e)

    by : (f : BackFault) → CallsAnswered {X = ℕ} (Err f) (Tell announces.end ∷ []) s t → TellsAtMost number s t
    by Device made = subst (λ (n : ℕ). TellsAtMost n s t) here (tells_at_most made visible)
    by Dead made = same made
    by (RingFull used need) made = same made
