-- What contracts see of the records that wait, and the log and its home for which they stand.
use Rattle.std.specs.Prelude.{◌≡◌, ◌⊎◌, ℕ, ◌+◌, ◌*◌, ◌<◌, ◌≤◌, Bool, List, All, Result, if◌then◌else◌, map, slice_set}
use Rattle.std.specs.List.{Contains}
use Rattle.dude_base.specs.declared.limits.TheConstants.{MAX_NUMBER, PAGE}
use Rattle.dude_base.specs.declared.sizes.Sizes.{Sizes}
use Rattle.dude_base.specs.declared.write.Write.{Write}
use Rattle.dude_base.specs.Sizes.{IsAccepted}
use Rattle.dude_base.specs.Records.{Covers, HasNumbers, RedoBundle, first_of}
use Rattle.pmem_trait.specs.Sights.{Sight, CallsMade}
use Rattle.redo_record.specs.Waiting.{IsEnd, Lead, Waiting}
use Rattle.redo_record.specs.Calls.{append_calls}
use Rattle.redo_record.specs.BackLaws.{CanPersist}
use Rattle.redo_record.specs.LogState.{LogState}
use Rattle.redo_record.specs.BackCalls.{reproduce_calls}
use Rattle.log_ring.specs.Appends.{AppendCalls}
use Rattle.log_ring.specs.Ring.{next_head}
use Rattle.log_ring.specs.declared.ring_fault.RingFault.{RingFault}
use Rattle.back_store.specs.Lane.{HasLaneCause, IsLaneFull, LaneState, released_lane, with_redo}
use Rattle.back_store.specs.Lanes.{AreLanes, AreLed, lane_at, lanes_at_start, rings_of, waiting_of}
use Rattle.back_store.specs.HomeGroup.{StandFor}

-- The records that wait: the sizes of the image, the lanes of its rings, the number up to which it was announced that all is
-- durable, and the one up to which the home has all writes.
pub record BacklogState : Type 0 where
  pub sizes : Sizes
  pub lanes : List LaneState
  pub durable : ℕ
  pub reproduced : ℕ

-- no records, where all up to this number is durable and in the home
abbrev pub empty_log : Sizes → ℕ → BacklogState
empty_log s number = record { sizes = s; lanes = lanes_at_start s; durable = number; reproduced = number }

-- Sizes are accepted, and there is a lane for each ring. Waiting records are over the reproduced number, and lead from it
-- to the durable one.
pub record IsLawful (v : BacklogState) : Type 0 where
  pub accepted : IsAccepted v.sizes
  pub lanes : AreLanes v.sizes v.lanes
  pub over : All (λ u. All (λ r. v.reproduced < first_of r) u.waiting) v.lanes
  pub led : AreLed v.lanes v.reproduced v.durable
  pub small : v.durable ≤ MAX_NUMBER

-- the log, with this home
abbrev pub log_of : BacklogState → List ℕ → LogState
log_of v home = record { sizes = v.sizes; reproduced = v.reproduced; home = home; rings = rings_of v.lanes; waiting = waiting_of v.lanes }

-- the records that wait, with this one behind those of its ring
abbrev pub with_record_in : ℕ → RedoBundle → BacklogState → BacklogState
with_record_in ring r v = record v { lanes = slice_set v.lanes ring (with_redo r (lane_at v.lanes ring)) }

-- the records that wait, where all up to this number is announced
abbrev pub announced_to : ℕ → BacklogState → BacklogState
announced_to number v = record v { durable = number }

-- the records that wait, without those up to this number, which the home now has
abbrev pub without_records_to : ℕ → BacklogState → BacklogState
without_records_to number v = record v { lanes = map (released_lane number) v.lanes; reproduced = number }

-- A record may be appended to this ring, to wait there.
pub record MayWait (v : BacklogState) (ring : ℕ) (r : RedoBundle) : Type 0 where
  -- there is such a ring
  pub exists : ring < v.sizes.rings
  -- the record's numbers are from 1 to MAX_NUMBER
  pub numbers : HasNumbers r
  -- they are over those that wait in the ring
  pub newest : All (λ q. q.last < first_of r) (lane_at v.lanes ring).waiting
  -- over the durable number
  pub over : v.durable < first_of r
  -- and no waiting record covers one of them
  pub new : (w : Waiting) (number : ℕ) → Contains (waiting_of v.lanes) w → Covers w.redo number → Covers r number → ⊥
  -- each write is of a home word
  pub home : All (λ w. w.at < v.sizes.pages * PAGE) r.writes

-- the record is appended to this ring by the calls for that, as `AppendCalls` says
abbrev pub AppendsIn : BacklogState → ℕ → RedoBundle → Result (Unit {0}) RingFault → Sight → Sight → Type 0
AppendsIn v ring r result s t = AppendCalls result (append_calls v.sizes (next_head (lane_at v.lanes ring).ring) r) s t

-- which fault an append to this ring answers
abbrev pub HasRingCause : BacklogState → ℕ → RedoBundle → Result (Unit {0}) RingFault → Sight → Sight → Type 0
HasRingCause v ring r result s t = HasLaneCause (lane_at v.lanes ring) r result s t

-- where the ring has room, the law of a persist holds of the record, whatever the home
abbrev pub CanWait : BacklogState → ℕ → RedoBundle → Type 0
CanWait v ring r = (home : List ℕ) → (IsLaneFull (lane_at v.lanes ring) r → ⊥)
    → CanPersist (log_of v home) (next_head (lane_at v.lanes ring).ring) r

-- the records that wait behind an append to this ring, by whether it succeeds
abbrev pub appended_if : Bool → ℕ → RedoBundle → BacklogState → BacklogState
appended_if ok ring r v = if ok then with_record_in ring r v else v

-- the records that wait behind a reproduction up to this number, by whether it succeeds
abbrev pub reproduced_if : Bool → ℕ → BacklogState → BacklogState
reproduced_if ok number v = if ok then without_records_to number v else v

-- The records up to this number are reproduced: the writes that stand for them are put, and then the mark; or, where ok is
-- false, a prefix of these calls was made, whose last one failed.
pub record Reproduces (v : BacklogState) (to : ℕ) (ok : Bool) (s t : Sight) : Type 0 where
  pub records : List RedoBundle
  pub writes : List Write
  pub lead : Lead (waiting_of v.lanes) v.reproduced records to
  pub stand : StandFor v.sizes records writes
  pub made : CallsMade (reproduce_calls v.sizes writes to) ok s t

-- the greatest end up to the durable number and up to so many numbers on
pub record IsLastEnd (v : BacklogState) (most number : ℕ) : Type 0 where
  pub end : IsEnd (waiting_of v.lanes) v.reproduced number
  pub announced : number ≤ v.durable
  pub near : number ≤ v.reproduced + most
  pub last : (n : ℕ) → IsEnd (waiting_of v.lanes) v.reproduced n → n ≤ v.durable → n ≤ v.reproduced + most → n ≤ number

-- the least end over the reproduced number
pub record IsNextEnd (v : BacklogState) (number : ℕ) : Type 0 where
  pub end : IsEnd (waiting_of v.lanes) v.reproduced number
  pub over : v.reproduced < number
  pub least : (n : ℕ) → IsEnd (waiting_of v.lanes) v.reproduced n → v.reproduced < n → number ≤ n

-- Where a reproduction of at most so many numbers stops: behind one bundle at least, where there is one to do.
abbrev pub StopsAfter : BacklogState → ℕ → ℕ → Type 0
StopsAfter v most number =
    (IsLastEnd v most number × ((v.reproduced < number) ⊎ (v.durable ≡ v.reproduced) ⊎ (most ≡ 0)))
    ⊎ ((1 ≤ most) × (v.reproduced < v.durable) × IsLastEnd v most v.reproduced × IsNextEnd v number)
