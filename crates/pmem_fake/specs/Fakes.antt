-- What clauses see of a medium in memory.
use Rattle.std.specs.Prelude.{◌≡◌, ◌⊎◌, ℕ, ◌+◌, ◌<◌, Bool, if◌then◌else◌, List}
use Rattle.std.specs.Global.{Vec}
use Rattle.pmem_trait.specs.declared.call.Call.{Call}
use Rattle.pmem_trait.specs.Faults.{faults_after}
use Rattle.pmem_trait.specs.Sights.{Sight, state_now, OneCall}
use Rattle.pmem_trait.specs.Words.{IsImage, after}
use Rattle.pmem_fake.specs.declared.image_fault.ImageFault.{ImageFault}
use Rattle.pmem_fake.specs.declared.image_fault.ImageFault.TheVariants.{Later, NoMemory}
use Rattle.pmem_fake.specs.declared.mem_pmem.MemPmem.{MemPmem}
use Rattle.pmem_fake.specs.CallHistory.{is_ok_at, is_effective_at}
use Rattle.pmem_fake.specs.History.{sight_of, IsUntouched, IsPicked, EachIsPicked}

-- all that the trait shows of it
abbrev pub sight : MemPmem → Sight
sight m = sight_of m.history.late m.start.items m.history.calls.items m.history.now m.history.budget m.history.faults

-- how many calls are allowed
abbrev pub allowed : MemPmem → ℕ
allowed m = m.history.budget

-- the counts of the calls that are to fail
abbrev pub failing : MemPmem → List ℕ
failing m = m.history.fail.items

-- a call that is to fail has its effect first
abbrev pub fails_late : MemPmem → Bool
fails_late m = m.history.late

-- the next call succeeds
abbrev pub is_next_ok : MemPmem → Bool
is_next_ok m = is_ok_at ((sight m).now + 1) (allowed m) (failing m)

-- the next call has its effect, be it that it succeeds or that it fails late
abbrev pub is_next_effective : MemPmem → Bool
is_next_effective m = is_effective_at (fails_late m) ((sight m).now + 1) (allowed m) (failing m)

-- which calls fail stays, and how
pub record SamePlan (old new : MemPmem) : Type 0 where
  pub allowed_stays : allowed new ≡ allowed old
  pub failing_stay : failing new ≡ failing old
  pub late_stays : fails_late new ≡ fails_late old

-- an untouched medium at these words, and which of its calls fail: those over the budget, which do nothing, and those of
-- these counts, which have their effect first where they fail late
pub record IsNewMedium (words : List ℕ) (budget : ℕ) (fail : List ℕ) (late : Bool) (m : MemPmem) : Type 0 where
  pub untouched : IsUntouched words (sight m)
  pub budget_is : allowed m ≡ budget
  pub fail_is : failing m ≡ fail
  pub late_is : fails_late m ≡ late

-- one call: it is as the model has it, succeeds and has its effect as planned, counts a fault exactly where it fails, and
-- leaves the plan
pub record MakesCall (c : Call) (ok : Bool) (old new : MemPmem) : Type 0 where
  pub models : OneCall c ok (sight old) (sight new)
  pub exact : ok ≡ is_next_ok old
  pub effect : state_now (sight new) ≡ (if is_next_effective old then after c (state_now (sight old)) else state_now (sight old))
  pub faults : (sight new).faults ≡ faults_after ok (sight old).faults
  pub plan : SamePlan old new

-- the image that these picks take at a moment
abbrev pub IsPickedAt : MemPmem → ℕ → List ℕ → Vec ℕ → Type 0
IsPickedAt m moment picks image = IsPicked (sight m).len ((sight m).state moment) picks image.items

-- an image that a crash may leave at a moment
abbrev pub IsImageAt : MemPmem → ℕ → Vec ℕ → Type 0
IsImageAt m moment image = IsImage (sight m).len ((sight m).state moment) image.items

-- each image that a crash may leave at a moment is taken by some picks
abbrev pub EachIsPickedAt : MemPmem → ℕ → Type 0
EachIsPickedAt m moment = EachIsPicked (sight m).len ((sight m).state moment)

-- the moment hasn't come yet
abbrev pub IsLater : MemPmem → ℕ → Type 0
IsLater m moment = (sight m).now < moment

-- the fault at such a moment
abbrev pub later_fault : MemPmem → ℕ → ImageFault
later_fault m moment = Later moment (sight m).now

-- why there is no image of a moment: it hasn't come yet, or there is no memory
abbrev pub IsImageFault : MemPmem → ℕ → ImageFault → Type 0
IsImageFault m moment fault = (fault ≡ later_fault m moment) ⊎ (fault ≡ NoMemory)
