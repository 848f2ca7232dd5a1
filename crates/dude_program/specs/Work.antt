-- What becomes of a command's requests, and of its output.
use Rattle.std.specs.Prelude.{◌≡◌, ◌⊎◌, Bool, false, ℕ, ◌<◌, ◌≤◌, ◌+◌, ◌*◌, Option, Some, None, unwrap_or, IsTrue, List, length, All, ⊤}
use Rattle.std.specs.Global.{Vec}
use Rattle.dude_base.specs.declared.limits.TheConstants.{MAX_NUMBER}
use Rattle.dude_base.specs.declared.run.Run.{Run}
use Rattle.dude_base.specs.declared.sizes.Sizes.{Sizes}
use Rattle.pmem_trait.specs.declared.medium.Medium.{Ghosts}
use Rattle.pmem_trait.specs.Sights.{Sight, Risen, SomeCalls}
use Rattle.back_store.specs.Back.{idle}
use Rattle.back_store.specs.BackView.{medium_of}
use Rattle.dude_recover.specs.declared.opened.Opened.{Opened}
use Rattle.tatp_model.specs.declared.done.Done.{Done}
use Rattle.tatp_model.specs.declared.request.Request.{Request}
use Rattle.tatp_model.specs.OneThread.{is_sync, RepliesOfOneThread}
use Rattle.tatp_text.specs.Output.{output_of}
use Rattle.tatp_text.specs.Summary.{summary_of}
use Rattle.dude_io.specs.Sink.{SinkSight, Took}
use Rattle.run_order.specs.Runs.{SyncsFollow}
use Rattle.run_order.specs.Printed.{NumbersOfOneThread}
use Rattle.run_threads.specs.Answers.{AreSyncsDurable}
use Rattle.run_threads.specs.Ends.{EndsWhole}
use Rattle.dude_engine.specs.declared.ran.RanEnd.{RanEnd}
use Rattle.dude_engine.specs.declared.ran.RanEnd.TheVariants.{Whole, NoMemory}
use Rattle.dude_engine.specs.declared.ran.RanEnd.TheVariants as ran
use Rattle.dude_engine.specs.Opening.{IsUpToLast, Opening}
use Rattle.dude_engine.specs.Plain.{IsOpeningOf, LosesFew, RecoversAlongRun, most_lost_by}
use Rattle.dude_engine.specs.Requests.{AreInRange, HasNumbersFor, request_count}
use Rattle.command_edges.specs.declared.fault.Fault.{Fault}
use Rattle.command_edges.specs.declared.fault.Fault.TheVariants.{ManyFiles, Frames, FewSubscribers, Numbers, Device, Memory}
use Rattle.command_edges.specs.Printing.{StopsIn}
use Rattle.tatp_model.specs.Files.{requests_in}
use Rattle.command_edges.specs.Command.{Meaning, Meaning.RunFiles}
use Rattle.dude_program.specs.declared.load.Load.{Load}
use Rattle.dude_program.specs.declared.worked.Worked.{Worked}
use Rattle.dude_program.specs.Causes.{FailsOnlyAtDevice, WantsFrames}
use Rattle.back_store.specs.Operations.{MakesOperations}
use Rattle.dude_program.specs.Opening.{load_of}

-- the fault that a run ended with, if any
abbrev pub fault_of_end : RanEnd → Option Fault
fault_of_end Whole = None
fault_of_end ran.Device = Some Device
fault_of_end NoMemory = Some Memory

-- The requests were run over an image that was opened at this opening with these home words: what is done, the last number
-- told, and the fault, if any. It is given whether threads ran, where it is known what they read, and which numbers the run may
-- come to, by what is done: some, where threads ran, that nothing done has.
pub record RanOver (threads : Bool) (Knows : Type 0) (Reaches : List Done → ℕ → Type 0) (opening : Opening) (words : List ℕ) (requests : List (List Request)) (done : List Done) (last : ℕ) (fault : Option Fault) (s t : Sight) : Type 0 where
  -- each request is done once, at numbers along which each file keeps its order
  pub numbers : NumbersOfOneThread opening.number requests done
  -- and answered as by one thread along the printed order
  pub replies : Knows → RepliesOfOneThread opening.number opening.sizes.calls opening.database requests done
  -- the number of a `SYNC` is at least that of each earlier request of its file
  pub syncs_follow : SyncsFollow done
  -- and at least the opening number
  pub syncs_from : All (λ d. IsTrue (is_sync d.request) → opening.number ≤ d.number) done
  -- and at most the last number told, or the opening number where none was
  pub syncs_told : IsTrue s.is_visible → AreSyncsDurable opening.number done s t
  -- at each moment every image recovers to the database after a prefix of the printed order
  pub moments : RecoversAlongRun Reaches opening words done s t
  -- with no fault all is done, the last number was told, and every image recovers to it
  pub whole : fault ≡ None → EndsWhole Reaches opening words requests done last s t
  -- and the calls made are operations of the opened log
  pub operates : fault ≡ None → MakesOperations (idle opening.sizes opening.number) s t
  -- at the end few of the numbers done are lost: at most 256, or on one thread 257 where the last call on the medium failed
  pub few_lost : (IsTrue threads × (fault ≡ Some Device)) ⊎ ((ok : Bool) × SomeCalls ok s t × LosesFew (most_lost_by ok) opening words done s t)
  -- no call on the medium failed but the last one, where the fault is `Device`
  pub ran : FailsOnlyAtDevice fault s t
  -- at `Device` the medium's count of faults rose
  pub cause : fault ≡ Some Device → Risen s.faults t.faults
  -- no other fault comes but want of memory
  pub only : (fault ≡ None) ⊎ (fault ≡ Some Device) ⊎ (fault ≡ Some Memory)

-- A text was printed, unless a fault came before; or a prefix of it was; or there was no memory for it.
abbrev pub PrintsText : List ℕ → Option Fault → Option Fault → SinkSight → SinkSight → Type 0
PrintsText text (Some earlier) fault s t = (fault ≡ Some earlier) × (t ≡ s)
PrintsText text None None s t = Took text s t
PrintsText text None (Some fault) s t = StopsIn text s t fault ⊎ ((fault ≡ Memory) × (t ≡ s))

-- the lines of what became of a command's requests
abbrev pub lines_of : {M : Type 0} → Worked M → List ℕ
lines_of worked = output_of worked.done.items worked.last

-- the totals by kinds of what became of a command's requests
abbrev pub totals_of : {M : Type 0} → Worked M → List ℕ
totals_of worked = summary_of worked.done.items

-- a sink, seen so, took a text, unless a fault came before; or a prefix of it; or there was no memory for it
abbrev pub EndsBy : {K : Type 0} → (K → SinkSight) → List ℕ → Option Fault → Option Fault → K → K → Type 0
EndsBy sight text earlier fault old new = PrintsText text earlier fault (sight old) (sight new)

-- the requests were run so over an opened image, on one thread; its medium, seen so, is given back
abbrev pub RanOverOpened : {M : Type 0} {ghosts : Ghosts M} → (M → Sight) → Opened M ghosts → List (Vec Request) → Worked M → Type 0
RanOverOpened sight o files worked = (opening : Opening) → IsOpeningOf o opening
    → RanOver false ⊤ (IsUpToLast opening) opening o.words.items (requests_in files) worked.done.items worked.last worked.fault
    (sight (medium_of o.back)) (sight worked.medium)

-- no list has more than 100,000 requests
abbrev pub EachIsFew : List (List Request) → Type 0
EachIsFew requests = All (λ list. length list ≤ 100000) requests

-- what threads share has as many frames as said, or as pages where that isn't said
abbrev pub HasFrames : Option ℕ → ℕ → Run → Type 0
HasFrames frames pages run = run.frames ≡ unwrap_or frames pages

-- frames that are in their limits, or not said
abbrev pub AllowsFrames : Option ℕ → ℕ → Type 0
AllowsFrames frames pages =
    (locks : Option ℕ) (files : List (List ℕ)) (wanted : ℕ) → ¬ WantsFrames (RunFiles frames locks files) wanted pages

-- frames that are out of their limits
abbrev pub RefusesFrames : Option ℕ → ℕ → Fault → Type 0
RefusesFrames frames pages fault = (locks : Option ℕ) (files : List (List ℕ))
    → (wanted : ℕ) × (fault ≡ Frames wanted pages) × WantsFrames (RunFiles frames locks files) wanted pages

-- there are more files than rings
abbrev pub HasManyFiles : ℕ → ℕ → Fault → Type 0
HasManyFiles files rings fault = (fault ≡ ManyFiles files rings) × (rings < files)

-- the numbers from this one on may not be enough for the requests
abbrev pub HasFewNumbers : ℕ → List (List Request) → Fault → Type 0
HasFewNumbers number requests fault = (fault ≡ Numbers number (request_count requests)) × (MAX_NUMBER < number + 65 * request_count requests)

-- Why a run of so many files with these requests over an opened image is refused: the first of these that fits.
abbrev pub RefusesRun : Meaning → (files : ℕ) → Sizes → ℕ → List (List Request) → Fault → Type 0
RefusesRun meaning files sizes number requests (ManyFiles wanted rings) = (wanted ≡ files) × (rings ≡ sizes.rings) × (rings < wanted)
RefusesRun meaning files sizes number requests (Frames wanted pages) = (files ≤ sizes.rings) × (pages ≡ sizes.pages) × WantsFrames meaning wanted pages
RefusesRun meaning files sizes number requests (Numbers first count) =
    (files ≤ sizes.rings) × ((wanted : ℕ) → ¬ WantsFrames meaning wanted sizes.pages) × (first ≡ number)
    × (count ≡ request_count requests) × (MAX_NUMBER < number + 65 * count)
RefusesRun meaning files sizes number requests _ = ⊥

-- why a run of these files, with these frames, is refused over an opened image
abbrev pub RefusesFiles : Option ℕ → Sizes → ℕ → List (Vec Request) → Fault → Type 0
RefusesFiles frames sizes number files fault = (locks : Option ℕ) (names : List (List ℕ))
    → RefusesRun (RunFiles frames locks names) (length files) sizes number (requests_in files) fault

-- Why a load is refused over an opened image: the first of these that fits; or there was no memory for it.
abbrev pub RefusesLoad : (files : ℕ) → Sizes → ℕ → List (List Request) → Fault → Type 0
RefusesLoad files sizes number requests (ManyFiles wanted rings) = (wanted ≡ files) × (rings ≡ sizes.rings) × (rings < wanted)
RefusesLoad files sizes number requests (FewSubscribers subscribers wanted) =
    (files ≤ sizes.rings) × (subscribers ≡ sizes.subscribers) × (wanted ≡ files) × (subscribers < files)
RefusesLoad files sizes number requests (Numbers first count) =
    (files ≤ sizes.rings) × (files ≤ sizes.subscribers) × (first ≡ number)
    × (count ≡ request_count requests) × (MAX_NUMBER < number + 65 * count)
RefusesLoad files sizes number requests Memory = ⊤
RefusesLoad files sizes number requests _ = ⊥

-- the requests are those of the load of so many subscribers
abbrev pub AreOfLoad : ℕ → Load → Vec (Vec Request) → Type 0
AreOfLoad subscribers load lists = requests_in lists.items ≡ load_of subscribers load.seed load.count load.files

-- a load that an opened image doesn't refuse: it is made, there are as many files as rings and subscribers at most, and the
-- numbers are enough
pub record IsLoadFor (sizes : Sizes) (number : ℕ) (load : Load) (lists : Vec (Vec Request)) : Type 0 where
  pub requests : AreOfLoad sizes.subscribers load lists
  pub rings : length lists.items ≤ sizes.rings
  pub files : load.files ≤ sizes.rings
  pub subscribers : load.files ≤ sizes.subscribers
  pub in_range : AreInRange (requests_in lists.items)
  pub numbers : HasNumbersFor number (requests_in lists.items)

-- why a load is refused over an opened image
abbrev pub RefusesLoadFor : Sizes → ℕ → Load → Fault → Type 0
RefusesLoadFor sizes number load =
    RefusesLoad load.files sizes number (load_of sizes.subscribers load.seed load.count load.files)
