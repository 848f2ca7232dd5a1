-- What a run on one thread does.
use Rattle.std.specs.Prelude.{◌≡◌, ◌↔◌, ℕ, ◌+◌, ◌≤◌, All, Bool, true, false, IsTrue, List}
use Rattle.dude_base.specs.declared.limits.TheConstants.{MAX_SPAN}
use Rattle.pmem_trait.specs.Sights.{AtEveryMoment, Risen, Sight, SomeCalls, state_now}
use Rattle.tatp_model.specs.declared.done.Done.{Done}
use Rattle.tatp_model.specs.declared.request.Request.{Request}
use Rattle.tatp_model.specs.OneThread.{AllAreDone, IsPrintedOrder, RepliesOfOneThread, is_sync}
use Rattle.tatp_layout.specs.StandsFor.{StandsFor}
use Rattle.pmem_trait.specs.declared.medium.Medium.{Ghosts}
use Rattle.run_order.specs.Runs.{AreFirstInRounds, Collects, Performs, SyncsFollow}
use Rattle.dude_recover.specs.declared.opened.Opened.{Opened}
use Rattle.dude_recover.specs.Opened.{HoldsOpened}
use Rattle.back_store.specs.BackView.{sight_of, state_of}
use Rattle.back_store.specs.Told.{WereTold}
use Rattle.dude_engine.specs.declared.ran.RanEnd.{RanEnd}
use Rattle.dude_engine.specs.declared.ran.RanEnd.TheVariants.{Device, NoMemory, Whole}
use Rattle.dude_engine.specs.Opening.{IsUpToLast, Opening, RecoversAmong, last_of}
use Rattle.dude_engine.specs.Endings.{AreSyncsTold, End, LosesAtMost}
use Rattle.dude_engine.specs.RunCalls.{MakesItsCalls}

-- the run starts from this opening: that of the image, with a database for which its home stands
pub record IsOpeningOf {M : Type 0} {ghosts : Ghosts M} (o : Opened M ghosts) (opening : Opening) : Type 0 where
  pub number : opening.number ≡ o.number
  pub sizes : opening.sizes ≡ o.sizes
  pub stands : StandsFor o.sizes o.words.items opening.database

-- Requests were performed one after another in rounds: request 0 of each file in the files' order, then request 1 of each,
-- and so on; the k-th that wrote has the opening number plus k; each reply is one thread's. They are done, and are the first
-- ones in this order.
pub record PerformsInRounds (opening : Opening) (files : List (List Request)) (done : List Done) : Type 0 where
  pub performed : List Done
  pub performs : Performs opening.number opening.sizes.calls opening.database performed
  pub collects : Collects files performed done
  pub first : AreFirstInRounds files done

-- At each moment every image recovers to the database after a prefix of the printed order, and to a number that the run may
-- come to, none under the opening one or one told. This holds of a medium that is as the opening of its image left it.
abbrev pub RecoversAlongRun : (List Done → ℕ → Type 0) → Opening → List ℕ → List Done → Sight → Sight → Type 0
RecoversAlongRun Reaches opening words done s t = (before : ℕ) → HoldsOpened before opening.sizes opening.number words s
    → (order : List Done) × IsPrintedOrder done order × AtEveryMoment (RecoversAmong (Reaches order) before opening order) s t

-- so on one thread: to no number over those done
abbrev pub RecoversOnTheRun : Opening → List ℕ → List Done → Sight → Sight → Type 0
RecoversOnTheRun opening = RecoversAlongRun (IsUpToLast opening) opening

-- At the end of a whole run all requests are done, the greatest number done or the opening one was told last, and every image
-- recovers to it.
pub record IsWhole (opening : Opening) (words : List ℕ) (files : List (List Request)) (done : List Done) (last : ℕ) (s t : Sight) : Type 0 where
  pub all : AllAreDone files done
  pub last_is : last ≡ last_of opening.number done
  pub end : (before : ℕ) → HoldsOpened before opening.sizes opening.number words s → IsTrue s.is_visible → End opening done last s t

-- how many numbers are lost at most of those done, by whether each call on the medium went well: those of an open bundle, 256;
-- where the last call failed, also that of the request whose record the bundle didn't take
abbrev pub most_lost_by : Bool → ℕ
most_lost_by true = MAX_SPAN + 1
most_lost_by false = MAX_SPAN + 2

-- and where a run ends so
abbrev pub most_lost : RanEnd → ℕ
most_lost Whole = 0
most_lost NoMemory = most_lost_by true
most_lost Device = most_lost_by false

-- At exit every image recovers to a number that is at most so many under the greatest one done. This holds of a medium that was
-- as the opening of its image left it.
abbrev pub LosesFew : ℕ → Opening → List ℕ → List Done → Sight → Sight → Type 0
LosesFew most opening words done s t = (before : ℕ) → HoldsOpened before opening.sizes opening.number words s → IsTrue s.is_visible
    → LosesAtMost most opening done t

-- no call on the medium failed
abbrev pub ran_well : RanEnd → Bool
ran_well Device = false
ran_well _ = true

-- This number is the last that was told in this call, or the opening number where none was. The call that failed may have told
-- one more, which is no less.
abbrev pub IsLastTold : RanEnd → Opening → ℕ → Sight → Sight → Type 0
IsLastTold end opening last s t = WereTold (ran_well end) opening.number last (state_now s).told (state_now t).told

-- A call on the medium failed, the last one, exactly where the run says so.
abbrev pub RanUnlessDevice : RanEnd → Sight → Sight → Type 0
RanUnlessDevice end s t = (ok : Bool) × SomeCalls ok s t × ((ok ≡ false) ↔ (end ≡ Device))

-- Replies: what is done, from this opening on.
pub record AnswersFiles (opening : Opening) (files : List (List Request)) (done : List Done) : Type 0 where
  -- the requests are performed in rounds
  pub performs : PerformsInRounds opening files done
  -- and answered as one thread answers along the printed order
  pub replies : RepliesOfOneThread opening.number opening.sizes.calls opening.database files done

-- Sync: the numbers of the `SYNC`s.
pub record TellsSyncs (first : ℕ) (done : List Done) (s t : Sight) : Type 0 where
  -- each is at least each earlier number of its file
  pub follow : SyncsFollow done
  -- and the opening number
  pub from : All (λ d. IsTrue (is_sync d.request) → first ≤ d.number) done
  -- and at most the last number told
  pub told : IsTrue s.is_visible → AreSyncsTold done s t

-- End: how a run over this image ends, and what is told.
pub record EndsAs {M : Type 0} {ghosts : Ghosts M} (o : Opened M ghosts) (files : List (List Request)) (done : List Done) (end : RanEnd) (last : ℕ) (t : Sight) : Type 0 where
  -- the medium is as long as before
  pub len : t.len ≡ (sight_of o.back).len
  -- at Whole all is done, told and in the home
  pub whole : end ≡ Whole → (opening : Opening) → IsOpeningOf o opening → IsWhole opening o.words.items files done last (sight_of o.back) t
  -- at Whole exactly the calls of such a run were made
  pub calls : end ≡ Whole → MakesItsCalls o.sizes o.words.items (state_of o.back) done last (sight_of o.back) t
  -- at Whole no number done is lost, at NoMemory at most 256, and at Device at most 257
  pub few_lost : (opening : Opening) → IsOpeningOf o opening → LosesFew (most_lost end) opening o.words.items done (sight_of o.back) t
  -- the last number told, which is none under the opening one
  pub from : o.number ≤ last
  pub last_told : IsTrue (sight_of o.back).is_visible → (opening : Opening) → IsOpeningOf o opening → IsLastTold end opening last (sight_of o.back) t
  -- a call on the medium failed exactly at Device
  pub ran : RanUnlessDevice end (sight_of o.back) t
  -- and the medium's count of faults rose then
  pub cause : end ≡ Device → Risen (sight_of o.back).faults t.faults
