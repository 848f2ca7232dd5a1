-- How a run on threads ends, and what a crash of it leaves.
use Rattle.std.specs.Prelude.{◌≡◌, ℕ, ◌<◌, ◌≤◌, All, true, IsTrue, List, length}
use Rattle.dude_base.specs.declared.run.Run.{Run}
use Rattle.dude_base.specs.Run.{IsRunWithin}
use Rattle.pmem_trait.specs.Sights.{Risen, Sight, state_now}
use Rattle.pmem_trait.specs.declared.medium.Medium.{Ghosts}
use Rattle.tatp_model.specs.declared.done.Done.{Done}
use Rattle.tatp_model.specs.declared.request.Request.{Request}
use Rattle.tatp_model.specs.OneThread.{AllAreDone}
use Rattle.dude_recover.specs.declared.opened.Opened.{Opened}
use Rattle.dude_recover.specs.Opened.{HoldsOpened}
use Rattle.back_store.specs.BackView.{sight_of, state_of}
use Rattle.back_store.specs.Operations.{MakesOperations}
use Rattle.dude_engine.specs.declared.ran.RanEnd.{RanEnd}
use Rattle.dude_engine.specs.declared.ran.RanEnd.TheVariants.{Device, Whole}
use Rattle.dude_engine.specs.Opening.{Opening}
use Rattle.dude_engine.specs.Requests.{AreInRange, HasNumbersFor}
use Rattle.dude_engine.specs.Endings.{End}
use Rattle.dude_engine.specs.Plain.{IsLastTold, IsOpeningOf, LosesFew, RanUnlessDevice, RecoversAlongRun, most_lost, ran_well}

-- where the medium is visible, it is as the opening of this image left it
abbrev pub IsAsOpened : {M : Type 0} {ghosts : Ghosts M} → Opened M ghosts → Type 0
IsAsOpened o = HoldsOpened (length (state_now (sight_of o.back)).told) o.sizes o.number o.words.items (sight_of o.back)

-- What a run on threads asks of an opened image, beside that it is one: its medium is as the opening left it, what the threads share is
-- within its limits, there is a file and no more than rings, and the requests are in range and have numbers.
pub record MayRunOn {M : Type 0} {ghosts : Ghosts M} (o : Opened M ghosts) (run : Run) (count : ℕ) (files : List (List Request)) : Type 0 where
  pub held : IsAsOpened o
  pub run_within : IsRunWithin o.sizes.pages run
  pub some : 0 < count
  pub rings : count ≤ o.sizes.rings
  pub in_range : AreInRange files
  pub numbers : HasNumbersFor o.number files

-- a run on threads may come to any number: some are void
abbrev pub AnyNumber : List Done → ℕ → Type 0
AnyNumber order n = Unit {0}

-- at each moment every image recovers to the database after a prefix of the printed order
abbrev pub RecoversOnThreads : Opening → List ℕ → List Done → Sight → Sight → Type 0
RecoversOnThreads = RecoversAlongRun AnyNumber

-- At the end of a whole run all requests are done; the last number, which is at least the opening number and each number done, was
-- told last, and every image recovers to it. It is given which numbers the run may come to, by what is done.
pub record EndsWhole (Reaches : List Done → ℕ → Type 0) (opening : Opening) (words : List ℕ) (files : List (List Request))
    (done : List Done) (last : ℕ) (s t : Sight) : Type 0 where
  pub all : AllAreDone files done
  pub none_over : All (λ d. d.number ≤ last) done
  pub from : opening.number ≤ last
  pub reaches : Reaches done last
  pub end : (before : ℕ) → HoldsOpened before opening.sizes opening.number words s → IsTrue s.is_visible → End opening done last s t

-- End: how a run on threads over this image ends, and what is told.
pub record EndsOnThreads {M : Type 0} {ghosts : Ghosts M} (o : Opened M ghosts) (files : List (List Request)) (done : List Done) (end : RanEnd) (last : ℕ) (t : Sight) : Type 0 where
  -- the medium is as long as before
  pub len : t.len ≡ (sight_of o.back).len
  -- at Whole all is done, told and in the home
  pub whole : end ≡ Whole → (opening : Opening) → IsOpeningOf o opening
      → EndsWhole AnyNumber opening o.words.items files done last (sight_of o.back) t
  -- at Whole the calls made are operations of the log
  pub operates : end ≡ Whole → MakesOperations (state_of o.back) (sight_of o.back) t
  -- the last number told, which is none under the opening one
  pub from : o.number ≤ last
  pub last_told : IsTrue (sight_of o.back).is_visible → (opening : Opening) → IsOpeningOf o opening → IsLastTold end opening last (sight_of o.back) t
  -- a call on the medium failed exactly at Device
  pub ran : RanUnlessDevice end (sight_of o.back) t
  -- and the medium's count of faults rose then
  pub cause : end ≡ Device → Risen (sight_of o.back).faults t.faults
  -- where no call failed, few of the numbers done are lost: none at Whole, and at NoMemory at most 256
  pub few_lost : ran_well end ≡ true → (opening : Opening) → IsOpeningOf o opening → LosesFew (most_lost end) opening o.words.items done (sight_of o.back) t
