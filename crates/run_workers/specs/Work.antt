-- What is said of the work that all workers share.
use Rattle.std.specs.Prelude.{ℕ, ◌<◌, List, length, map, slice_index_or}
use Rattle.tatp_model.specs.declared.request.Request.{Request}
use Rattle.core_table.specs.Layout.{TableSight}
use Rattle.stm_transactions.specs.Passes.{PassSight}
use Rattle.run_workers.specs.declared.job.Job.{Job}
use Rattle.run_workers.specs.declared.joined.Joined.{Joined}
use Rattle.run_workers.specs.declared.work.Work.{Work}
use Rattle.run_workers.specs.declared.work_end.WorkEnd.{WorkEnd}
use Rattle.run_workers.specs.Job.{HasWorked, HasWorkedOn, IsFresh, IsJobOf, KeepPlaces, KeepsPlace}
use Rattle.run_workers.specs.Jobs.{AreFresh, HaveWorked, IsBack, MayShare, MayWorkOn}
use Rattle.run_workers.specs.Joined.{AreServed}
use Rattle.run_workers.specs.Sending.{IsSameLane, KeepLanes, SendFirst, SendsFirst}
use Rattle.run_workers.specs.Steps.{EndsAt, IsAt}
use Rattle.run_workers.specs.Working.{MayWork}

module _ {S X K P T G : Type 0} where
  -- the table that its transactions run on
  abbrev pub work_table : Work S X K P T G → TableSight K
  work_table w = w.stm.now.events

  -- the requests of each file
  abbrev pub work_files : Work S X K P T G → List (List Request)
  work_files w = map (λ f. f.items) w.files.now

  -- ---- one file
  -- the home is the table's, and each of these requests is in range
  abbrev pub MayServeRequests : Work S X K P T G → List Request → Type 0
  MayServeRequests w requests = MayWork (work_table w) w.lay.now requests

  -- nothing of these requests is done yet
  abbrev pub IsNew : Work S X K P T G → List Request → Job X → Type 0
  IsNew w requests job = IsFresh (work_table w) requests job

  -- the requests before this index are done
  abbrev pub IsServedTo : Work S X K P T G → List Request → ℕ → Job X → Type 0
  IsServedTo w requests index job = IsAt (work_table w) w.lay.now requests index job

  -- the work on these requests ends so
  abbrev pub EndsSo : Work S X K P T G → List Request → WorkEnd → Job X → Type 0
  EndsSo w requests end job = EndsAt (work_table w) w.lay.now requests end job

  -- the work on these requests is done as far as it went
  abbrev pub IsOver : Work S X K P T G → List Request → Job X → Type 0
  IsOver w requests job = HasWorked (work_table w) w.lay.now requests job

  -- ---- one of its files
  -- the job of one of its files, of which nothing is done yet
  abbrev pub IsNewOfFile : Work S X K P T G → Job X → Type 0
  IsNewOfFile w job = IsJobOf (work_table w) (work_files w) job

  -- the work on the job's file is done as far as it went
  abbrev pub IsOverOfFile : Work S X K P T G → Job X → Type 0
  IsOverOfFile w job = HasWorkedOn (work_table w) w.lay.now (work_files w) job

  -- ---- all of its files
  -- the home is the table's, and each request of each file is in range
  abbrev pub MayServeAll : Work S X K P T G → Type 0
  MayServeAll w = MayWorkOn (work_table w) w.lay.now (work_files w)

  -- passes may be split off this one for all files
  abbrev pub MaySplit : Work S X K P T G → PassSight X → Type 0
  MaySplit w p = MayShare (work_table w) (work_files w) p

  -- there is a job for each file, of which nothing is done yet
  abbrev pub AreNew : Work S X K P T G → List (Job X) → Type 0
  AreNew w jobs = AreFresh (work_table w) (work_files w) jobs

  -- all workers have ended
  abbrev pub AreOver : Work S X K P T G → List (Job X) → Type 0
  AreOver w jobs = HaveWorked (work_table w) w.lay.now (work_files w) jobs

  -- A job may be given to a worker: nothing of its file is done yet, and it sent just the first so many replies
  pub record IsReady (w : Work S X K P T G) (job : Job X) : Type 0 where
    pub may : MayServeAll w
    pub fresh : IsNewOfFile w job
    pub sent : SendsFirst job

  -- The jobs may be given to workers: nothing is done yet, and each job sent just the first so many replies
  pub record AreReady (w : Work S X K P T G) (jobs : List (Job X)) : Type 0 where
    pub may : MayServeAll w
    pub fresh : AreNew w jobs
    pub sent : SendFirst jobs

  -- The worker of this job has ended: the job serves its file still, sends into its lane still, and sent just the first so many replies
  pub record HasEnded (w : Work S X K P T G) (old new : Job X) : Type 0 where
    pub place : KeepsPlace old new
    pub lane : IsSameLane old.outbox new.outbox
    pub sent : SendsFirst new
    pub worked : IsOverOfFile w new

  -- the worker of each of these jobs has ended
  abbrev pub EachHasEnded : Work S X K P T G → List (Job X) → List (Job X) → Type 0
  EachHasEnded w old new = (i : ℕ) (d : Job X) → i < length old → HasEnded w (slice_index_or old i d) (slice_index_or new i d)

  -- The workers of these jobs have ended: each one's requests are done as far as it went, it serves its file still,
  -- sends into its lane still, and sent just the first so many replies.
  pub record HaveEnded (w : Work S X K P T G) (old new : List (Job X)) : Type 0 where
    pub worked : AreOver w new
    pub places : KeepPlaces old new
    pub lanes : KeepLanes old new
    pub sent : SendFirst new

  -- the workers served first requests of the files, and the one pass that is left tells of all
  abbrev pub HasServedAll : Work S X K P T G → Joined X → Type 0
  HasServedAll w joined = AreServed (work_table w) w.lay.now (work_files w) joined

  -- the second pass is the first one, to which what was split off came back
  abbrev pub CameBack : Work S X K P T G → PassSight X → PassSight X → Type 0
  CameBack w p q = IsBack (work_table w) p q
