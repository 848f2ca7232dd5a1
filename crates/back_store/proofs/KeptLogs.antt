-- What a medium keeps of a back, whatever the back's calls are.
use Rattle.std.proofs.Common.{◌≡◌, ℕ, ◌≤◌, Bool, true, false, IsTrue, List, refl, sym, ap, ◌∙◌, subst, arith, Result, Ok, Err}
use Rattle.std.specs.Prelude.{IsErrOf}
use Rattle.dude_base.specs.declared.limits.TheConstants.{VERSION}
use Rattle.dude_base.specs.Image.{image_words}
use Rattle.pmem_trait.specs.declared.call.Call.{Call}
use Rattle.pmem_trait.specs.Words.{State, AtLeast, EveryImage, AfterEachCall, after_all}
use Rattle.pmem_trait.specs.Sights.{Sight, state_now, Risen, Extends, CallsMade, AtEveryMoment}
use Rattle.pmem_trait.proofs.Laws.{made_keep, every_moment_here, after_each_here}
use Rattle.pmem_trait.proofs.Runs.{made_here, made_later, made_cause, later_here}
use Rattle.redo_record.specs.LogState.{HoldsLog, RecoversAmong}
use Rattle.redo_record.proofs.HeldLog.{held_log_law}
use Rattle.redo_record.proofs.WaitingRecords.{end_reached, waiting_law}
use Rattle.back_store.specs.Backlog.{IsLawful, log_of}
use Rattle.back_store.specs.Back.{BackState, IsEnd, home_now, waiting_now}
use Rattle.back_store.specs.Answers.{CallsAnswered, answered}
use Rattle.back_store.specs.Images.{HoldsStore}
use Rattle.back_store.specs.declared.back_fault.BackFault.{BackFault}
use Rattle.back_store.specs.declared.back_fault.BackFault.TheVariants.{RingFull, Device, Dead}
use Rattle.back_store.proofs.RestingHome.{home_in, home_is}

-- the end is no less than the durable number
pub durable_upto : (v : BackState) (end : ℕ) → IsLawful v.log → IsEnd v end → v.log.durable ≤ end
durable_upto v end lawful is = end_reached lawful.lanes.distinct (λ r waits. waits) is lawful.led.lead

-- nothing greater than the end was told
pub told_upto : (before : ℕ) (v : BackState) (end : ℕ) (s : Sight) → IsLawful v.log → v.dead ≡ false → HoldsStore before v s → IsTrue s.is_visible → IsEnd v end → AtLeast before (state_now s).told end
told_upto before v end s lawful alive keeps visible is x told =
    let low = keeps.told alive visible x told in
    let up = durable_upto v end lawful is in
    omega arith

-- Behind calls that leave the log of a back, the medium is as that back left it.
pub keeps_behind : (before : ℕ) (w : BackState) (home : List ℕ) {cs : List Call} {s t : Sight} → CallsMade cs true s t
    → (IsTrue s.is_visible → HoldsLog (log_of w.log home) (after_all cs (state_now s))) → (IsTrue s.is_visible → AtLeast before (after_all cs (state_now s)).told w.log.durable) → HoldsStore before w t
keeps_behind before w home {cs} {s} {t} made holds told = record {
  holds = λ alive visible.
      let here = sym (made_later made).is_visible ∙ visible in
      let there : state_now t ≡ after_all cs (state_now s) = made_here made here in
      let held = subst (HoldsLog (log_of w.log home)) (sym there) (holds here) in
      subst (λ h. HoldsLog (log_of w.log h) (state_now t)) (sym (home_is VERSION w.log.sizes w.log.reproduced home (state_now t) held.rest)) held;
  told = λ alive visible.
      let here = sym (made_later made).is_visible ∙ visible in
      subst (λ (p : State). AtLeast before p.told w.log.durable) (sym (made_here made here)) (told here);
}

-- the home behind such calls
pub home_behind : (w : BackState) (home : List ℕ) {cs : List Call} {s t : Sight} → CallsMade cs true s t → IsTrue s.is_visible → HoldsLog (log_of w.log home) (after_all cs (state_now s)) → home_now w.log.sizes t ≡ home
home_behind w home {cs} {s} {t} made visible holds =
    ap (home_in w.log.sizes) (made_here made visible) ∙ home_is VERSION w.log.sizes w.log.reproduced home (after_all cs (state_now s)) holds.rest

-- where no call was made
pub keeps_same : (before : ℕ) (v w : BackState) (s t : Sight) → w ≡ v → t ≡ s → HoldsStore before v s → HoldsStore before w t
keeps_same before v w s t same still keeps = subst (λ u. HoldsStore before w u) (sym still) (subst (λ u. HoldsStore before u s) (sym same) keeps)

pub keeps_dead : (before : ℕ) (w : BackState) (t : Sight) → w.dead ≡ true → HoldsStore before w t
keeps_dead before w t dead = record { holds = λ alive visible. absurd (let both = sym dead ∙ alive in cc); told = λ alive visible. absurd (let both = sym dead ∙ alive in cc) }

-- every image at rest recovers to the end
pub images_here : (before low : ℕ) (v : BackState) (s : Sight) → IsLawful v.log → image_words v.log.sizes ≤ s.len → v.dead ≡ false → HoldsStore before v s → IsEnd v low → IsTrue s.is_visible
    → EveryImage s.len (RecoversAmong (log_of v.log (home_now v.log.sizes s)) before low low) (state_now s)
images_here before low v s lawful room alive keeps end visible =
    held_log_law (log_of v.log (home_now v.log.sizes s)) (state_now s) s.len before low (keeps.holds alive visible) room end (told_upto before v low s lawful alive keeps visible end)

-- where a call leaves the waiting records, both ends are one
pub ends_same : (P : ℕ → Type 0) (v : BackState) (low high : ℕ) → IsLawful v.log → IsEnd v low → IsEnd v high → P low → P high
ends_same P v low high lawful one other here = subst P (waiting_law.one_end (waiting_now v) v.log.reproduced low high lawful.lanes.distinct one other) here

pub alive_from : (dead : Bool) → (dead ≡ true → ⊥) → dead ≡ false
alive_from true not_dead = absurd (not_dead refl)
alive_from false not_dead = refl

-- at each moment of a call, by its answer
pub moments_answered : {X : Type 0} (P : List ℕ → List ℕ → Type 0) (result : Result X BackFault) {cs : List Call} {s t : Sight} → CallsAnswered result cs s t
    → (IsTrue s.is_visible → AfterEachCall (EveryImage s.len P) (state_now s) cs) → AtEveryMoment P s t
moments_answered P (Ok x) made law = made_keep P made law
moments_answered P (Err Device) made law = made_keep P made law
moments_answered P (Err Dead) {s = s} still law = subst (λ u. AtEveryMoment P s u) (sym still) (every_moment_here P (λ visible. after_each_here (law visible)))
moments_answered P (Err (RingFull used need)) {s = s} still law = subst (λ u. AtEveryMoment P s u) (sym still) (every_moment_here P (λ visible. after_each_here (law visible)))

-- behind a call, by its answer
pub keeps_answered : {X : Type 0} (before : ℕ) (v : BackState) (ok : X → BackState) (result : Result X BackFault) {cs : List Call} {s t : Sight} → CallsAnswered result cs s t
    → ((x : X) → result ≡ Ok x → CallsMade cs true s t → HoldsStore before (ok x) t) → HoldsStore before v s → HoldsStore before (answered result ok v) t
keeps_answered before v ok (Ok x) made behind keeps = behind x refl made
keeps_answered before v ok (Err Device) {t = t} made behind keeps = keeps_dead before (record v { dead = true }) t refl
keeps_answered before v ok (Err Dead) {s = s} {t = t} still behind keeps = keeps_same before v v s t refl still keeps
keeps_answered before v ok (Err (RingFull used need)) {s = s} {t = t} still behind keeps = keeps_same before v v s t refl still keeps

-- a device's fault is a counted one
pub cause_answered : {X : Type 0} (result : Result X BackFault) (cs : List Call) (s t : Sight) → CallsAnswered result cs s t → IsErrOf result Device → Risen s.faults t.faults
cause_answered (Ok x) cs s t made is = cc
cause_answered (Err Device) cs s t made is = made_cause made
cause_answered (Err Dead) cs s t still is = cc
cause_answered (Err (RingFull used need)) cs s t still is = cc

-- of a dead back nothing is said
pub keeps_alive : (before : ℕ) (w : BackState) (t : Sight) → (w.dead ≡ false → HoldsStore before w t) → HoldsStore before w t
keeps_alive before w t keeps = record { holds = λ alive. (keeps alive).holds alive; told = λ alive. (keeps alive).told alive }

-- what stays of the medium
pub answered_later : {X : Type 0} (result : Result X BackFault) (cs : List Call) {s t : Sight} → CallsAnswered result cs s t → Extends s t
answered_later (Ok x) cs made = made_later made
answered_later (Err Device) cs made = made_later made
answered_later (Err Dead) cs {s = s} still = subst (λ u. Extends s u) (sym still) (later_here s)
answered_later (Err (RingFull used need)) cs {s = s} still = subst (λ u. Extends s u) (sym still) (later_here s)
