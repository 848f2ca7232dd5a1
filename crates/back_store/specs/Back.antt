-- What contracts see of a back, beside its medium.
use Rattle.std.specs.Prelude.{◌≡◌, ◌⊎◌, ℕ, ◌*◌, ◌≤◌, Bool, false, List, length, map}
use Rattle.std.specs.List.{range_with_len}
use Rattle.dude_base.specs.declared.limits.TheConstants.{PAGE}
use Rattle.dude_base.specs.declared.sizes.Sizes.{Sizes}
use Rattle.dude_base.specs.Image.{home_word}
use Rattle.dude_base.specs.Records.{RedoBundle}
use Rattle.pmem_trait.specs.Words.{value_of}
use Rattle.pmem_trait.specs.Sights.{Sight, state_now}
use Rattle.redo_record.specs.Record.{cells_for}
use Rattle.redo_record.specs.Waiting.{Waiting, IsContiguousEnd}
use Rattle.back_store.specs.Lane.{IsLaneFull, used_by}
use Rattle.back_store.specs.Lanes.{lane_at, waiting_of}
use Rattle.back_store.specs.Backlog.{BacklogState, MayWait, empty_log}
use Rattle.back_store.specs.declared.back_fault.BackFault.{BackFault}
use Rattle.back_store.specs.declared.back_fault.BackFault.TheVariants.{Dead, Device, RingFull}

-- The records that wait, with the numbers announced and reproduced, and whether an earlier call on the medium failed.
pub record BackState : Type 0 where
  pub log : BacklogState
  pub dead : Bool

-- the home, as reads give it
abbrev pub home_now : Sizes → Sight → List ℕ
home_now s t = map (λ i. value_of ((state_now t).word (home_word s i))) (range_with_len 0 (s.pages * PAGE))

-- all records that wait
abbrev pub waiting_now : BackState → List Waiting
waiting_now v = waiting_of v.log.lanes

-- the records that wait in a ring, the oldest first
abbrev pub waiting_of_ring : BackState → ℕ → List RedoBundle
waiting_of_ring v ring = (lane_at v.log.lanes ring).waiting

-- the number to which waiting records lead from the reproduced one
abbrev pub IsEnd : BackState → ℕ → Type 0
IsEnd v number = IsContiguousEnd (waiting_now v) v.log.reproduced number

-- Waiting records lead from the reproduced number to an end, which is no less than this number.
pub record EndsFrom (v : BackState) (least : ℕ) : Type 0 where
  pub end : ℕ
  pub is_end : IsEnd v end
  pub up : least ≤ end

-- a bundle may be persisted in this ring
abbrev pub MayPersist : BackState → ℕ → RedoBundle → Type 0
MayPersist v ring b = MayWait v.log ring b

-- the record needs more cells than those that wait in its ring leave
abbrev pub IsRingFull : BackState → ℕ → RedoBundle → Type 0
IsRingFull v ring r = IsLaneFull (lane_at v.log.lanes ring) r

-- the fault that a ring has no room for a record, with both counts of cells
abbrev pub ring_full : BackState → ℕ → RedoBundle → BackFault
ring_full v ring r = RingFull (used_by (waiting_of_ring v ring)) (cells_for (length r.writes))

-- a fault of a persist: that its ring has no room, or one of the two that every call may answer
abbrev pub IsPersistFault : BackState → ℕ → RedoBundle → BackFault → Type 0
IsPersistFault v ring r fault = (fault ≡ ring_full v ring r) ⊎ (fault ≡ Device) ⊎ (fault ≡ Dead)

-- a back where nothing waits, and all up to this number is durable and in the home
abbrev pub idle : Sizes → ℕ → BackState
idle s number = record {
  log = empty_log s number;
  dead = false;
}
