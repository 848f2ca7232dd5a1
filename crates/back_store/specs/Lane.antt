-- What contracts see of a lane: a ring of the log and the records in it that wait.
use Rattle.std.specs.Prelude.{◌≡◌, ◌≢◌, ℕ, ◌+◌, ◌*◌, ◌<◌, ◌≤◌, nat_lt, All, List, [], ◌∷◌, ◌++◌, Result, length, slice_index_or, sum_by}
use Rattle.std.specs.List.{AllWithin, filter}
use Rattle.dude_base.specs.declared.limits.TheConstants.{PAGE}
use Rattle.dude_base.specs.declared.sizes.Sizes.{Sizes}
use Rattle.dude_base.specs.declared.write.Write.{Write}
use Rattle.dude_base.specs.Records.{HasNumbers, RedoBundle, first_of}
use Rattle.dude_base.specs.Writes.{HasDistinctPlaces}
use Rattle.pmem_trait.specs.Sights.{Sight}
use Rattle.redo_record.specs.AppendLaw.{CanAppend}
use Rattle.redo_record.specs.Record.{cells_for}
use Rattle.group_combine.specs.Group.{GroupState}
use Rattle.log_ring.specs.Appends.{HasCauseOf}
use Rattle.log_ring.specs.Ring.{RingState, empty_ring, next_head, released_to, with_record}
use Rattle.log_ring.specs.declared.ring_fault.RingFault.{RingFault}
use Rattle.log_ring.specs.declared.ring_fault.RingFault.TheVariants.{Full}

-- A ring, and the records in it that wait, the oldest first.
pub record LaneState : Type 0 where
  pub ring : RingState
  pub waiting : List RedoBundle

-- how many cells these records take together
abbrev pub used_by : List RedoBundle → ℕ
used_by rs = sum_by (λ r. cells_for (length r.writes)) rs

-- the record needs more cells than the waiting ones leave
abbrev pub IsLaneFull : LaneState → RedoBundle → Type 0
IsLaneFull v r = v.ring.sizes.cells < used_by v.waiting + cells_for (length r.writes)

-- the fault that a lane has no room for a record, with both counts of cells
abbrev pub full_lane : LaneState → RedoBundle → RingFault
full_lane v r = Full (used_by v.waiting) (cells_for (length r.writes))

-- the lane of a ring without records
abbrev pub empty_lane : Sizes → ℕ → LaneState
empty_lane s ring = record { ring = empty_ring s ring; waiting = [] }

-- A record may be appended to a lane.
pub record MayTake (v : LaneState) (r : RedoBundle) : Type 0 where
  -- its numbers are from 1 to MAX_NUMBER
  pub numbers : HasNumbers r
  -- they are over those that wait
  pub newest : All (λ q. q.last < first_of r) v.waiting
  -- each write is of a home word
  pub home : All (λ w. w.at < v.ring.sizes.pages * PAGE) r.writes

-- which fault an append to this lane answers
abbrev pub HasLaneCause : LaneState → RedoBundle → Result (Unit {0}) RingFault → Sight → Sight → Type 0
HasLaneCause v r result s t = HasCauseOf (full_lane v r) (IsLaneFull v r) result s t

-- The ring of a lane takes a record.
pub record CanTake (v : LaneState) (r : RedoBundle) : Type 0 where
  -- where there is room, the next cells are free, and the record may be appended to them whatever the mark is
  pub room : (mark : ℕ) → (IsLaneFull v r → ⊥) → CanAppend v.ring.sizes mark v.ring.logged (next_head v.ring) r
  -- its first number is over those in the ring
  pub over : All (λ l. l.last < first_of r) v.ring.logged

-- the write at index i of the record at index k
abbrev pub IsWriteAt : LaneState → ℕ → ℕ → Write → Type 0
IsWriteAt v k i write = (d : RedoBundle) (w : Write) → slice_index_or (slice_index_or v.waiting k d).writes i w ≡ write

-- how many writes the record at index k has
abbrev pub CountsWritesAt : LaneState → ℕ → ℕ → Type 0
CountsWritesAt v k count = (d : RedoBundle) → count ≡ length (slice_index_or v.waiting k d).writes

-- the writes of the record at index k are of different words
abbrev pub AreDistinctAt : LaneState → ℕ → Type 0
AreDistinctAt v k = (d : RedoBundle) → HasDistinctPlaces (slice_index_or v.waiting k d).writes

-- a group has room for the writes of the record at index k
abbrev pub HasRoomAt : LaneState → ℕ → GroupState → Type 0
HasRoomAt v k group = (d : RedoBundle) → length group.taken + length (slice_index_or v.waiting k d).writes ≤ group.room

-- a group takes the writes of the record at index k
abbrev pub TakesThoseAt : LaneState → ℕ → GroupState → GroupState → Type 0
TakesThoseAt v k old new = (d : RedoBundle) → new.taken ≡ old.taken ++ (slice_index_or v.waiting k d).writes

-- none of these records begins with this number
abbrev pub NoneBegins : List RedoBundle → ℕ → Type 0
NoneBegins waiting number = All (λ r. first_of r ≢ number) waiting

-- the lane with this record behind its others
abbrev pub with_redo : RedoBundle → LaneState → LaneState
with_redo r v = record { ring = with_record r v.ring; waiting = v.waiting ++ r ∷ [] }

-- the lane without the records whose last number is at most n
abbrev pub released_lane : ℕ → LaneState → LaneState
released_lane n v = record { ring = released_to n v.ring; waiting = filter (λ r. nat_lt n r.last) v.waiting }

-- just the first records, this many, have last numbers up to this one
abbrev pub IsFront : List RedoBundle → ℕ → ℕ → Type 0
IsFront waiting taken number = (taken ≤ length waiting) × AllWithin (λ r. r.last ≤ number) waiting 0 taken × AllWithin (λ r. number < r.last) waiting taken (length waiting)

-- The bundle at this index begins with this number, and those behind it are over it.
pub record HasAt (waiting : List RedoBundle) (index number : ℕ) : Type 0 where
  pub within : index < length waiting
  pub first_is : (d : RedoBundle) → first_of (slice_index_or waiting index d) ≡ number
  pub later : (k : ℕ) (d : RedoBundle) → index < k → k < length waiting → (slice_index_or waiting index d).last < first_of (slice_index_or waiting k d)
