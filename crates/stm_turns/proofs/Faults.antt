-- Which fault a call of the back answers, and which one calls behind one another answer.
use Rattle.std.proofs.Common.{◌≡◌, true, false, refl, sym, ap, ◌∙◌, subst, ⊎_elim}
use Rattle.std.specs.Prelude.{Result, Ok, Err, OnOk, IsErrAnd}
use Rattle.std.proofs.lemmas.Bool.{true≢false}
use Rattle.pmem_trait.specs.declared.medium.Medium.{Ghosts}
use Rattle.back_store.specs.Answers.{answered}
use Rattle.back_store.specs.Back.{BackState}
use Rattle.back_store.specs.BackView.{HasCause, state_of}
use Rattle.back_store.specs.declared.back.Back.{Back}
use Rattle.back_store.specs.declared.back_fault.BackFault.{BackFault}
use Rattle.back_store.specs.declared.back_fault.BackFault.TheVariants.{RingFull, Device, Dead}
use Rattle.stm_turns.specs.Turns.{FailsBy, IsFaultOf, LivesBy}
use Rattle.stm_turns.proofs.Calling.{alive_unless, not_true}
use Rattle.stm_turns.proofs.Past.{full_or_dead, full_or_device}

device_or_dead : {X : Type 0} (r : Result X BackFault) → r ≡ Err Device → r ≡ Err Dead → ⊥
device_or_dead r a b = cc

-- of one call: the back was alive where it succeeds, and the fault is that of the back
abbrev pub IsCausedBy : {X : Type 0} → Result X BackFault → BackState → Type 0
IsCausedBy (Ok x) v = v.dead ≡ false
IsCausedBy (Err fault) v = IsFaultOf v fault

pub fails_by : {M X : Type 0} {ghosts : Ghosts M} (result : Result X BackFault) (old new : Back M ghosts) → HasCause result old new → IsCausedBy result (state_of old)
fails_by (Ok x) old new cause = alive_unless (state_of old) (Ok x) x refl cause.dead
fails_by (Err Device) old new cause = not_true (state_of old).dead (λ dead. device_or_dead (Err Device) refl (cause.dead.1 dead))
fails_by (Err Dead) old new cause = cause.dead.0 refl
fails_by (Err (RingFull used need)) old new cause = ⊎_elim (λ e. full_or_device used need e) (λ e. full_or_dead used need e) cause.only

-- a fault of a back that is alive is one of each other back that is
fault_still : (fault : BackFault) (v w : BackState) → v.dead ≡ false → w.dead ≡ false → IsFaultOf v fault → IsFaultOf w fault
fault_still Device v w before after is = after
fault_still Dead v w before after is = absurd (true≢false (sym is ∙ before))
fault_still (RingFull used need) v w before after is = is

no_ok : {X : Type 0} (answer : Result X BackFault) (fault : BackFault) (x : BackState) → IsErrAnd answer (λ e. e ≡ fault) → OnOk answer (x.dead ≡ false)
no_ok (Ok a) fault x same = absurd same
no_ok (Err e) fault x same = tt

-- that of a call behind others; x is the back then
pub fails_still : {X : Type 0} (result : Result X BackFault) (v w x : BackState) → v.dead ≡ false → w.dead ≡ false → FailsBy result v x → FailsBy result w x
fails_still (Ok a) v w x before after is = after
fails_still (Err fault) v w x before after is = (fault_still fault v w before after is.0, is.1)

-- a call that failed by a fault of the back left it dead
pub dead_after : {X : Type 0} (fault : BackFault) (ok : X → BackState) (v w : BackState) → IsFaultOf v fault → w ≡ answered (Err fault) ok v → w.dead ≡ true
dead_after Device ok v w is left = ap (λ (s : BackState). s.dead) left
dead_after Dead ok v w is left = ap (λ (s : BackState). s.dead) left ∙ is
dead_after (RingFull used need) ok v w is left = absurd is

-- a fault that is handed on
pub hands_on : {X : Type 0} (answer : Result X BackFault) (fault : BackFault) (v x : BackState) → IsErrAnd answer (λ e. e ≡ fault) → IsFaultOf v fault → x.dead ≡ true → FailsBy answer v x
hands_on (Ok a) fault v x same is dead = absurd same
hands_on (Err e) fault v x same is dead = (subst (IsFaultOf v) (sym same) is, dead)

pub err_still : {X Y : Type 0} (result : Result X BackFault) (answer : Result Y BackFault) (fault : BackFault) (v w x : BackState) → result ≡ Err fault → IsErrAnd answer (λ e. e ≡ fault) → v.dead ≡ false → w.dead ≡ false → FailsBy result v x → FailsBy answer w x
err_still {X} result answer fault v w x was same before after is = let f = subst (λ (r : Result X BackFault). FailsBy r v x) was is in hands_on answer fault w x same (fault_still fault v w before after f.0) f.1

pub lives_still : {X Y : Type 0} (result : Result X BackFault) (answer : Result Y BackFault) (fault : BackFault) (v w x : BackState) → result ≡ Err fault → IsErrAnd answer (λ e. e ≡ fault) → v.dead ≡ false → w.dead ≡ false → LivesBy result v x → LivesBy answer w x
lives_still result answer fault v w x was same before after is = (err_still result answer fault v w x was same before after is.0, no_ok answer fault x same)
