-- What an append leaves of the medium.
use Rattle.std.specs.Prelude.{◌≡◌, ◌⊎◌, ◌↔◌, ℕ, ◌+◌, ◌*◌, ◌<◌, ◌≤◌, true, false, All, IfErr, IsErrOf, IsTrue, List, OnOk, Result, Ok, Err, is_ok, length}
use Rattle.dude_base.specs.declared.limits.TheConstants.{PAGE}
use Rattle.dude_base.specs.declared.sizes.Sizes.{Sizes}
use Rattle.dude_base.specs.Image.{cell_at}
use Rattle.dude_base.specs.Records.{HasNumbers, RedoBundle, first_of}
use Rattle.pmem_trait.specs.declared.call.Call.{Call}
use Rattle.pmem_trait.specs.declared.failed.Failed.{Failed}
use Rattle.pmem_trait.specs.Sights.{AtEveryMoment, CallsMade, Risen, Sight, state_now}
use Rattle.redo_record.specs.AppendLaw.{Appended, CanAppend, HeadsHold}
use Rattle.redo_record.specs.Calls.{append_calls}
use Rattle.redo_record.specs.Record.{cells_for}
use Rattle.redo_record.specs.Fits.{cells_used}
use Rattle.log_ring.specs.Ring.{FitsMedium, RingState, next_head}
use Rattle.log_ring.specs.declared.ring_fault.RingFault.{RingFault}
use Rattle.log_ring.specs.declared.ring_fault.RingFault.TheVariants.{Full, Device}

-- At Ok exactly these calls were made; at Device a prefix of them, whose last one failed; at Full none.
abbrev pub AppendCalls : Result (Unit {0}) RingFault → List Call → Sight → Sight → Type 0
AppendCalls (Ok done) calls s t = CallsMade calls true s t
AppendCalls (Err Device) calls s t = CallsMade calls false s t
AppendCalls (Err (Full used need)) calls s t = t ≡ s

-- the record needs more cells than are free
abbrev pub IsOverfull : RingState → RedoBundle → Type 0
IsOverfull v r = v.sizes.cells < cells_used v.logged + cells_for (length r.writes)

-- the fault that a ring has no room for a record, with both counts of cells
abbrev pub full_for : RingState → RedoBundle → RingFault
full_for v r = Full (cells_used v.logged) (cells_for (length r.writes))

-- the record has room in the ring's cells
abbrev pub HasRoomFor : RingState → RedoBundle → Type 0
HasRoomFor v r = cells_used v.logged + cells_for (length r.writes) ≤ v.sizes.cells

-- A record may be appended to a ring.
pub record MayAppend (v : RingState) (r : RedoBundle) : Type 0 where
  -- its numbers are from 1 to MAX_NUMBER
  pub numbers : HasNumbers r
  -- they are over those in the ring
  pub newest : All (λ l. l.last < first_of r) v.logged
  -- each write is of a home word
  pub home : All (λ w. w.at < v.sizes.pages * PAGE) r.writes

-- exactly the calls that append a record whose head is to stand in this slot were made; or a prefix of them, whose last failed
abbrev pub AppendsAt : Sizes → ℕ → ℕ → RedoBundle → Result (Unit {0}) Failed → Sight → Sight → Type 0
AppendsAt sizes ring slot r result s t = CallsMade (append_calls sizes (cell_at ring slot) r) (is_ok result) s t

-- the record is appended behind the others of its ring by the calls for that, as `AppendCalls` says
abbrev pub AppendsBehind : RingState → RedoBundle → Result (Unit {0}) RingFault → Sight → Sight → Type 0
AppendsBehind v r result s t = AppendCalls result (append_calls v.sizes (next_head v) r) s t

-- Which fault an append answers, where this one is for a ring that has no room.
pub record HasCauseOf (full : RingFault) (Overfull : Type 0) (result : Result (Unit {0}) RingFault) (s t : Sight) : Type 0 where
  -- Full, with both counts of cells, exactly where the ring has no room
  pub full_is : IsErrOf result full ↔ Overfull
  -- Device only where the medium's count of faults rose in this call
  pub device : IsErrOf result Device → Risen s.faults t.faults
  -- and no other
  pub only : IfErr result (λ fault. (fault ≡ full) ⊎ (fault ≡ Device))

-- which fault an append to this ring answers
abbrev pub HasAppendCause : RingState → RedoBundle → Result (Unit {0}) RingFault → Sight → Sight → Type 0
HasAppendCause v r result s t = HasCauseOf (full_for v r) (IsOverfull v r) result s t

-- What an append leaves in the cells of its ring.
pub record AppendsSafely (v : RingState) (r : RedoBundle) (result : Result (Unit {0}) RingFault) (s t : Sight) : Type 0 where
  -- where there is room, the next cells are free, and the record may be appended to them whatever the mark is
  pub can : (mark : ℕ) → (IsOverfull v r → ⊥) → CanAppend v.sizes mark v.logged (next_head v) r
  -- where the ring fits the medium, each head of it over the mark has its complete record at each moment, and is that of one
  -- of the ring's records or that of r
  pub heads : (IsTrue s.is_visible → FitsMedium v (state_now s))
      → AtEveryMoment (HeadsHold v.sizes v.logged (next_head v) r (state_now s)) s t
  -- at Ok the record's cells are settled, and the ring fits again
  pub appended : OnOk result (IsTrue s.is_visible → FitsMedium v (state_now s)
      → Appended v.sizes v.logged v.released (next_head v) r (state_now s) (state_now t))
