-- Where a run on one thread stands between two requests, and what a failed call leaves of it.
use Rattle.std.specs.Prelude.{◌≡◌, ◌⊎◌, ℕ, ◌+◌, ◌*◌, ◌<◌, ◌≤◌, AllPairs, Bool, IsPermutation, OnOk, true, false, IsTrue, List, [], ◌∷◌, ◌++◌, length, map, fold, All, Result, Ok, Err, Some, slice_get, vec_capacity, vec_len}
use Rattle.dude_base.specs.declared.limits.TheConstants.{MAX_NUMBER, PAGE}
use Rattle.dude_base.specs.declared.sizes.Sizes.{Sizes}
use Rattle.pmem_trait.specs.declared.medium.Medium.{Ghosts}
use Rattle.pmem_trait.specs.Words.{AtLeast, EveryImage}
use Rattle.pmem_trait.specs.Sights.{Sight, state_now, AtEveryMoment, Risen, SomeCalls}
use Rattle.word_space.specs.Flats.{words_of, flat_sight, fresh}
use Rattle.tatp_model.specs.declared.done.Done.{Done}
use Rattle.tatp_model.specs.declared.request.Request.{Request}
use Rattle.tatp_model.specs.declared.reply.Reply.{Reply}
use Rattle.tatp_model.specs.declared.reply.Reply.TheVariants.{Changed}
use Rattle.tatp_model.specs.Database.{Database}
use Rattle.tatp_model.specs.OneThread.{AllAreDone, PrecedesInFiles, RepliesAlong, after_number, after_requests, is_sync}
use Rattle.tatp_layout.specs.StandsFor.{StandsFor}
use Rattle.run_order.specs.Runs.{AreFirstInRounds, Collects, IsNumberedFrom, PrecedesInRounds}
use Rattle.dude_recover.specs.Opened.{HoldsOpened}
use Rattle.log_numbered.specs.declared.run_log.RunLog.{RunLog}
use Rattle.log_numbered.specs.Arrays.{RunArrays, array_at, last_number}
use Rattle.back_store.specs.Operations.{Makes}
use Rattle.back_store.specs.Told.{WereTold}
use Rattle.log_numbered.specs.RunLog.{Follows, IsAlive, log_durable, log_last, log_medium, log_parts, log_sizes}
use Rattle.dude_engine.specs.declared.ran.RanEnd.{RanEnd}
use Rattle.dude_engine.specs.declared.ran.RanEnd.TheVariants.{Whole, Device as EndsOnDevice, NoMemory as EndsOnNoMemory}
use Rattle.dude_engine.specs.declared.run.Run.{Run}
use Rattle.dude_engine.specs.declared.run_fault.RunFault.{RunFault}
use Rattle.dude_engine.specs.declared.run_fault.RunFault.TheVariants.{Device, NoMemory}
use Rattle.dude_engine.specs.Opening.{Opening, RecoversAt}
use Rattle.dude_engine.specs.Endings.{AreSyncsTold, WasToldLast}
use Rattle.dude_engine.specs.Plain.{most_lost_by}
use Rattle.dude_engine.specs.RunCalls.{AreBodyWrites, RunBy, RunParts, ServedInTurn}

-- the number of the last request performed, or the opening one
abbrev pub last_performed : ℕ → List Done → ℕ
last_performed first performed = fold (λ last d. d.number) first performed

-- the tables behind the requests performed
abbrev pub tables_after : Opening → List Done → Database
tables_after opening performed = after_requests opening.sizes.calls opening.database (map (λ d. d.request) performed)

-- Each number is the last one or, where the request wrote, the next; and each reply is one thread's.
pub record AreAnswered (opening : Opening) (performed : List Done) : Type 0 where
  pub numbered : IsNumberedFrom opening.number performed
  pub replies : RepliesAlong opening.sizes.calls opening.database performed

-- The image recovers to a number from the opening one to the last, and to the database behind the requests performed that
-- wrote with numbers up to it; and nothing greater was told behind the first `before` numbers.
pub record RecoversSoFar (before : ℕ) (opening : Opening) (performed : List Done) (told image : List ℕ) : Type 0 where
  pub number : ℕ
  pub from : opening.number ≤ number
  pub floor : AtLeast before told number
  pub most : number ≤ last_performed opening.number performed
  pub recovers : RecoversAt opening performed image number

-- Arrays stand for the databases at the numbers from the opening one on, and the last one is this.
pub record HasArrays (opening : Opening) (performed : List Done) (words : List ℕ) (a : RunArrays) : Type 0 where
  pub first : a.first ≡ opening.number
  pub last_is : last_number a ≡ last_performed opening.number performed
  pub stand : (n : ℕ) → opening.number ≤ n → n ≤ last_number a
      → StandsFor opening.sizes (array_at a n) (after_number opening.sizes.calls opening.database performed n)
  pub last : array_at a (last_number a) ≡ words

-- the log follows such arrays
pub record FollowsRun {M : Type 0} {ghosts : Ghosts M} (before : ℕ) (opening : Opening) (performed : List Done) (words : List ℕ) (l : RunLog M ghosts) (s : Sight) : Type 0 where
  pub arrays : RunArrays
  pub has : HasArrays opening performed words arrays
  pub follows : Follows before arrays l s

-- the number of each `SYNC` is at most this one, which was told last in this call
abbrev pub AreSyncsUpTo : ℕ → List Done → Sight → Sight → Type 0
AreSyncsUpTo durable performed s t = All (λ d. IsTrue (is_sync d.request) → WasToldLast durable s t × (d.number ≤ durable)) performed

-- Whatever the opening: the log is alive, and the words are at rest.
pub record IsReady {M : Type 0} {ghosts : Ghosts M} (run : Run M ghosts) : Type 0 where
  pub alive : IsAlive run.log
  -- the log and the words have one layout
  pub sizes : log_sizes run.log ≡ run.lay
  -- no write of the words is pending
  pub clean : flat_sight run.words ≡ fresh (words_of run.words)
  -- there are as many words as the home has
  pub count : length (words_of run.words) ≡ run.lay.pages * PAGE

-- The run began at this opening with these words in the home, when its medium was as s; its medium is now as t. The current
-- words stand for the tables behind the requests performed, and the log is at the last number.
pub record IsRunning {M : Type 0} {ghosts : Ghosts M} (opening : Opening) (words : List ℕ) (lay : Sizes) (l : RunLog M ghosts) (current : List ℕ) (performed : List Done) (s t : Sight) : Type 0 where
  -- the layout is that of the opening
  pub layout : opening.sizes ≡ lay
  pub sizes : log_sizes l ≡ opening.sizes
  -- each request performed is answered as by one thread
  pub answered : AreAnswered opening performed
  -- the log is at the last number
  pub last : log_last l ≡ last_performed opening.number performed
  -- the current words stand for the tables behind the requests performed
  pub stands : StandsFor opening.sizes current (tables_after opening performed)
  pub len : t.len ≡ s.len
  -- calls were made on the medium, and none failed
  pub ran : SomeCalls true s t
  -- the durable number doesn't fall under the opening one
  pub rises : opening.number ≤ log_durable l
  -- it was told last, or it is the opening one and none was told
  pub tells : IsTrue s.is_visible → WereTold true opening.number (log_durable l) (state_now s).told (state_now t).told
  -- the number of each `SYNC` is at most the durable one, which was told last
  pub syncs : IsTrue s.is_visible → AreSyncsUpTo (log_durable l) performed s t
  -- where the medium was as the opening left it, the log follows the arrays of the run
  pub follows : (before : ℕ) → HoldsOpened before opening.sizes opening.number words s → FollowsRun before opening performed current l t
  -- and at each moment every image recovers to the database behind a prefix of the requests
  pub moments : (before : ℕ) → HoldsOpened before opening.sizes opening.number words s → AtEveryMoment (RecoversSoFar before opening performed) s t

-- a run that began at this opening, with these words in the home, stands between two requests
abbrev pub Runs : {M : Type 0} {ghosts : Ghosts M} → Opening → List ℕ → Run M ghosts → Sight → Sight → Type 0
Runs opening words run s t = IsRunning opening words run.lay run.log (words_of run.words) run.done.items s t

-- the image recovers to a number that is at most so many under that of the last request performed
abbrev pub RecoversNearLast : ℕ → Opening → List Done → List ℕ → Type 0
RecoversNearLast most opening performed image = (n : ℕ) × (last_performed opening.number performed ≤ n + most) × RecoversAt opening performed image n

-- where the medium was as the opening left it, every image recovers so at the end
abbrev pub EndsNearLast : ℕ → Opening → List ℕ → List Done → Sight → Sight → Type 0
EndsNearLast most opening words performed s t = (before : ℕ) → HoldsOpened before opening.sizes opening.number words s → IsTrue s.is_visible
    → EveryImage t.len (λ told image. RecoversNearLast most opening performed image) (state_now t)

-- What a run from this opening leaves where the last call on the medium failed: the requests performed are answered as
-- by one thread, and at each moment every image recovers to the database behind a prefix of them.
pub record HasFailed (opening : Opening) (words : List ℕ) (durable : ℕ) (performed : List Done) (s t : Sight) : Type 0 where
  -- each request performed is answered as by one thread
  pub answered : AreAnswered opening performed
  pub len : t.len ≡ s.len
  -- calls were made on the medium, and the last one failed
  pub ran : SomeCalls false s t
  -- the medium's count of faults rose
  pub cause : Risen s.faults t.faults
  -- the durable number doesn't fall under the opening one
  pub rises : opening.number ≤ durable
  -- numbers were told as in a run; the call that failed may have told one more, no less than the durable one
  pub tells : IsTrue s.is_visible → WereTold false opening.number durable (state_now s).told (state_now t).told
  -- the number of each `SYNC` is at most the last one told
  pub syncs : IsTrue s.is_visible → AreSyncsTold performed s t
  -- where the medium was as the opening left it, every image recovers so at each moment
  pub moments : (before : ℕ) → HoldsOpened before opening.sizes opening.number words s → AtEveryMoment (RecoversSoFar before opening performed) s t
  -- and at the end near the last number
  pub near : EndsNearLast (most_lost_by false) opening words performed s t

-- what is left of a run, by an answer
abbrev pub IsLeft : {M : Type 0} {ghosts : Ghosts M} → Result (Unit {0}) RunFault → Opening → List ℕ → Run M ghosts → Sight → Sight → Type 0
IsLeft (Ok done) opening words run s t = Runs opening words run s t
IsLeft (Err NoMemory) opening words run s t = Runs opening words run s t × IsAlive run.log
IsLeft (Err Device) opening words run s t = HasFailed opening words (log_durable run.log) run.done.items s t

-- The last number was told last in this call, and every image recovers to it.
pub record IsSettledRun (opening : Opening) (words : List ℕ) (durable : ℕ) (performed : List Done) (s t : Sight) : Type 0 where
  pub durable_is : durable ≡ last_performed opening.number performed
  pub told : IsTrue s.is_visible → WasToldLast durable s t
  pub images : (before : ℕ) → HoldsOpened before opening.sizes opening.number words s → IsTrue s.is_visible
      → EveryImage t.len (λ told image. RecoversAt opening performed image durable) (state_now t)

-- The words have pending writes, those of the request's body; its reply is `Changed`.
pub record IsChanging {M : Type 0} {ghosts : Ghosts M} (request : Request) (run : Run M ghosts) : Type 0 where
  pub alive : IsAlive run.log
  pub sizes : log_sizes run.log ≡ run.lay
  pub count : length (words_of run.words) ≡ run.lay.pages * PAGE
  pub writes : AreBodyWrites run.lay (words_of run.words) request Changed (flat_sight run.words).writes

-- a request done that wrote nothing
abbrev pub silent_done : ℕ → ℕ → ℕ → Request → Reply → Done
silent_done file index number request reply = record { file = file; index = index; number = number; wrote = false; request = request; reply = reply }

-- One request more is done, the one at this place.
pub record Adds (file index : ℕ) (request : Request) (old new : List Done) : Type 0 where
  pub entry : Done
  pub added : new ≡ old ++ entry ∷ []
  pub file_is : entry.file ≡ file
  pub index_is : entry.index ≡ index
  pub asked : entry.request ≡ request

-- by an answer, one more is done; where there is a fault, perhaps
abbrev pub AddsUnless : Result (Unit {0}) RunFault → ℕ → ℕ → Request → List Done → List Done → Type 0
AddsUnless (Ok done) file index request old new = Adds file index request old new
AddsUnless (Err fault) file index request old new = (new ≡ old) ⊎ Adds file index request old new

-- The turn of a file: its request of this round is done, or it has none. Where there is a fault, perhaps it is done.
abbrev pub AddsTurn : Result (Unit {0}) RunFault → ℕ → ℕ → List Request → List Done → List Done → Type 0
AddsTurn (Ok done) file index requests old new =
    ((request : Request) × (slice_get requests index ≡ Some request) × Adds file index request old new) ⊎ ((length requests ≤ index) × (new ≡ old))
AddsTurn (Err fault) file index requests old new =
    ((request : Request) × (slice_get requests index ≡ Some request) × Adds file index request old new) ⊎ (new ≡ old)

-- a run as its calls depend on it
abbrev pub run_parts : {M : Type 0} {ghosts : Ghosts M} → Run M ghosts → RunParts
run_parts run = record { words = words_of run.words; log = log_parts run.log }

-- From one run to another some requests more are done, and exactly the calls that serve them were made.
pub record ServesMore {M : Type 0} {ghosts : Ghosts M} (k : Run M ghosts) (s : Sight) (l : Run M ghosts) (t : Sight) : Type 0 where
  pub more : List Done
  pub done : l.done.items ≡ k.done.items ++ more
  pub makes : Makes (ServedInTurn k.lay more (run_parts k) (run_parts l)) s t

-- how a run ended, by its answer
abbrev pub end_by : Result (Unit {0}) RunFault → RanEnd
end_by (Ok done) = Whole
end_by (Err Device) = EndsOnDevice
end_by (Err NoMemory) = EndsOnNoMemory

-- no call on the medium failed
abbrev pub went_well : Result (Unit {0}) RunFault → Bool
went_well (Ok done) = true
went_well (Err NoMemory) = true
went_well (Err Device) = false

-- ---- what the calls of a run ask and leave

-- what clauses see of the medium of a run
abbrev pub run_sight : {M : Type 0} {ghosts : Ghosts M} → Run M ghosts → Sight
run_sight {M} {ghosts} run = ghosts.sight (log_medium run.log)

-- A run is ready, and nothing is done.
pub record IsAtStart {M : Type 0} {ghosts : Ghosts M} (run : Run M ghosts) : Type 0 where
  pub ready : IsReady run
  pub empty : run.done.items ≡ []

-- there is room to note a request more
abbrev pub HasRoomToNote : {M : Type 0} {ghosts : Ghosts M} → Run M ghosts → Type 0
HasRoomToNote run = vec_len run.done < vec_capacity run.done

-- A request of this file may be served.
pub record MayServeFrom {M : Type 0} {ghosts : Ghosts M} (file : ℕ) (run : Run M ghosts) : Type 0 where
  -- the run is ready
  pub ready : IsReady run
  -- there is room to note it
  pub room : HasRoomToNote run
  -- there is a number more
  pub number : log_last run.log < MAX_NUMBER
  -- and a ring for the file
  pub ring : file < run.lay.rings

-- from one run to another no more numbers are drawn than requests are noted
abbrev pub NumbersNoMore : {M : Type 0} {ghosts : Ghosts M} → Run M ghosts → Run M ghosts → Type 0
NumbersNoMore old new = log_last new.log + vec_len old.done ≤ log_last old.log + vec_len new.done

-- from one run to another the request is noted as done, as `AddsUnless` says
abbrev pub NotesUnless : {M : Type 0} {ghosts : Ghosts M} → Result (Unit {0}) RunFault → ℕ → ℕ → Request → Run M ghosts → Run M ghosts → Type 0
NotesUnless result file index request old new = AddsUnless result file index request old.done.items new.done.items

-- from one run to another the turn of a file is noted as done, as `AddsTurn` says
abbrev pub NotesTurn : {M : Type 0} {ghosts : Ghosts M} → Result (Unit {0}) RunFault → ℕ → ℕ → List Request → Run M ghosts → Run M ghosts → Type 0
NotesTurn result file index requests old new = AddsTurn result file index requests old.done.items new.done.items

-- from each opening on that the old run began at: what is left is as `IsLeft` says
abbrev pub LeavesOn : {M : Type 0} {ghosts : Ghosts M} → Result (Unit {0}) RunFault → Run M ghosts → Run M ghosts → Type 0
LeavesOn result old new = (opening : Opening) (words : List ℕ) (s : Sight) → Runs opening words old s (run_sight old)
    → IsLeft result opening words new s (run_sight new)

-- What is left of a run when some requests were served.
pub record LeavesRun {M : Type 0} {ghosts : Ghosts M} (result : Result (Unit {0}) RunFault) (old new : Run M ghosts) : Type 0 where
  -- at Ok it is ready for the next one
  pub ready : OnOk result (IsReady new)
  -- the layout stays, and the room for what is done
  pub lay : new.lay ≡ old.lay
  pub room : vec_capacity new.done ≡ vec_capacity old.done
  -- it stands behind what is done, or ended as the fault says
  pub left : LeavesOn result old new
  -- at Ok exactly the calls for what is done were made
  pub calls : OnOk result (ServesMore old (run_sight old) new (run_sight new))

-- The requests of files are performed in rounds.
pub record PerformsFiles (result : Result (Unit {0}) RunFault) (files : List (List Request)) (performed : List Done) : Type 0 where
  -- those of an earlier round come first, and in a round those of an earlier file
  pub rounds : AllPairs PrecedesInRounds performed
  -- put in the order of the files they are the first ones of each
  pub collects : (done : List Done) → IsPermutation performed done → AllPairs PrecedesInFiles done → Collects files performed done
  -- and the first ones in the order of rounds
  pub first : (done : List Done) → IsPermutation performed done → AllPairs PrecedesInFiles done → AreFirstInRounds files done
  -- at Ok all of them
  pub all : OnOk result ((done : List Done) → IsPermutation performed done → AllPairs PrecedesInFiles done → AllAreDone files done)

-- exactly the calls of the run up to its last number were made
abbrev pub MakesRun : {M : Type 0} {ghosts : Ghosts M} → Run M ghosts → Run M ghosts → Type 0
MakesRun old new = Makes (RunBy old.lay (run_parts old) new.done.items (log_durable new.log)) (run_sight old) (run_sight new)

-- from each opening on that the old run began at, the new one is settled
abbrev pub SettlesRun : {M : Type 0} {ghosts : Ghosts M} → Run M ghosts → Run M ghosts → Type 0
SettlesRun old new = (opening : Opening) (words : List ℕ) (s : Sight) → Runs opening words old s (run_sight old)
    → IsSettledRun opening words (log_durable new.log) new.done.items s (run_sight new)
