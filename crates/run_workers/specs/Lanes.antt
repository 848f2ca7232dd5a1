-- The lanes of workers: from their jobs to the printer.
use Rattle.std.specs.Prelude.{◌≡◌, ℕ, ◌<◌, ⊤, Option, None, Some, List, [], length, slice_index_or}
use Rattle.tatp_model.specs.declared.request.Request.{Request}
use Rattle.dude_stream.specs.declared.outbox.Outbox.{Outbox}
use Rattle.dude_stream.specs.declared.outlet.Outlet.{Outlet}
use Rattle.dude_stream.specs.Lanes.{HasReceived, IsLane, received_by, sent_by}
use Rattle.run_workers.specs.declared.job.Job.{Job}
use Rattle.run_workers.specs.Job.{requests_of}

-- ---- before the work
-- the lane of a file through which nothing went: as many lines are left as the file has requests
pub record IsOpenLane (requests : List Request) (box : Outbox) (outlet : Outlet) : Type 0 where
  pub lane : IsLane box.feed outlet.drain
  pub counted : box.sent ≡ 0
  pub sent : sent_by box.feed ≡ []
  pub received : received_by outlet.drain ≡ []
  pub left : outlet.left ≡ length requests

-- the two ends of a lane for each file
pub record AreOpenLanes (files : List (List Request)) (boxes : List Outbox) (outlets : List Outlet) : Type 0 where
  pub boxes_count : length boxes ≡ length files
  pub outlets_count : length outlets ≡ length files
  pub each : (k : ℕ) (b : Outbox) (o : Outlet) → k < length files → IsOpenLane (requests_of files k) (slice_index_or boxes k b) (slice_index_or outlets k o)

-- a job sends into a lane through which nothing went
abbrev pub OpensTo : List Request → Option Outbox → Outlet → Type 0
OpensTo requests None outlet = ⊥
OpensTo requests (Some box) outlet = IsOpenLane requests box outlet

-- so does the job of each file
pub record AreOpen {X : Type 0} (files : List (List Request)) (jobs : List (Job X)) (outlets : List Outlet) : Type 0 where
  pub jobs_count : length jobs ≡ length files
  pub outlets_count : length outlets ≡ length files
  pub each : (k : ℕ) (j : Job X) (o : Outlet) → k < length files → OpensTo (requests_of files k) (slice_index_or jobs k j).outbox (slice_index_or outlets k o)

-- ---- jobs that differ in their lanes alone
-- the job, with another end of a lane
abbrev pub IsSameWork : {X : Type 0} → Job X → Job X → Type 0
IsSameWork old new = new ≡ record old { outbox = new.outbox }

-- so it is of each
abbrev pub HaveSameWork : {X : Type 0} → List (Job X) → List (Job X) → Type 0
HaveSameWork {X} old new = (k : ℕ) (d : Job X) → k < length old → IsSameWork (slice_index_or old k d) (slice_index_or new k d)

-- each job has its end of a lane
abbrev pub HaveBoxes : {X : Type 0} → List Outbox → List (Job X) → Type 0
HaveBoxes {X} boxes jobs = (k : ℕ) (d : Job X) (b : Outbox) → k < length jobs → (slice_index_or jobs k d).outbox ≡ Some (slice_index_or boxes k b)

-- ---- behind the work
-- a job sends into the lane of the outlet
abbrev pub IsLaneOf : Option Outbox → Outlet → Type 0
IsLaneOf None outlet = ⊥
IsLaneOf (Some box) outlet = IsLane box.feed outlet.drain

-- so does each
abbrev pub AreLanes : {X : Type 0} → List (Job X) → List Outlet → Type 0
AreLanes {X} jobs outlets = (k : ℕ) (j : Job X) (o : Outlet) → k < length jobs → IsLaneOf (slice_index_or jobs k j).outbox (slice_index_or outlets k o)

-- what was received is the first part of what was sent
abbrev pub HasReceivedOf : Option Outbox → Outlet → Type 0
HasReceivedOf None outlet = ⊤
HasReceivedOf (Some box) outlet = HasReceived (sent_by box.feed) (received_by outlet.drain)

-- so it is of each lane
abbrev pub HaveReceived : {X : Type 0} → List (Job X) → List Outlet → Type 0
HaveReceived {X} jobs outlets = (k : ℕ) (j : Job X) (o : Outlet) → k < length jobs → HasReceivedOf (slice_index_or jobs k j).outbox (slice_index_or outlets k o)
