-- What is known of a back, as plain data: what contracts see of it beside its medium, and all records that it was handed.
use Rattle.std.specs.Prelude.{◌≡◌, ℕ, ◌<◌, ◌≤◌, false, List, All}
use Rattle.std.specs.List.{Contains}
use Rattle.dude_base.specs.Records.{Covers, RedoRecord}
use Rattle.redo_record.specs.Waiting.{Waiting}
use Rattle.back_store.specs.Backlog.{IsLawful}
use Rattle.back_store.specs.Back.{BackState, waiting_now}
use Rattle.core_events.specs.Keyed.{Distinct}
use Rattle.core_events.specs.KeptNumbers.{numbers_of}
use Rattle.stm_slots.specs.Records.{HasRecord, IsReached, JoinsRecords}

-- A back without its medium, and the records that it was handed, the last one first.
pub record BackLists : Type 0 where
  pub state : BackState
  pub records : List RedoRecord

-- the lists of a back that was handed these records
abbrev pub lists : BackState → List RedoRecord → BackLists
lists v rs = record { state = v; records = rs }

-- Of a back that isn't dead.
pub record LiveLists (first : ℕ) (l : BackLists) : Type 0 where
  -- all up to the durable number was handed over
  pub reached : IsReached first l.records l.state.log.durable
  -- what waits joins records that were handed over
  pub waits : (w : Waiting) → Contains (waiting_now l.state) w → JoinsRecords l.records w.redo
  -- a record over the reproduced number waits in some bundle
  pub logged : (n : ℕ) → HasRecord l.records n → l.state.log.reproduced < n
      → (w : Waiting) × Contains (waiting_now l.state) w × Covers w.redo n

-- The lists fit together.
pub record LawfulLists (first : ℕ) (l : BackLists) : Type 0 where
  -- what waits is lawful
  pub log : IsLawful l.state.log
  -- each number has one record at most, and is over the first
  pub once : Distinct (numbers_of l.records)
  pub over : All (λ r. first < r.number) l.records
  pub from : first ≤ l.state.log.reproduced
  pub live : l.state.dead ≡ false → LiveLists first l
