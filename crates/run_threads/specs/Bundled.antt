-- The bundle of the next records of a rest.
use Rattle.std.specs.Prelude.{◌≡◌, ℕ, ◌+◌, ◌<◌, ◌≤◌, All, List, length}
use Rattle.dude_base.specs.Joins.{CanJoin}
use Rattle.dude_base.specs.Records.{RedoRecord, bundle_of, first_of, with_next}
use Rattle.redo_record.specs.Record.{cells_for}
use Rattle.stm_slots.specs.Records.{HasRecord, JoinsJust, writes_in}
use Rattle.run_threads.specs.Rest.{AreUnder, IsWithin, at, number_at, writes_at}
use Rattle.run_threads.specs.declared.open_bundle.OpenBundle.{OpenBundle}
use Rattle.tiny_stm.specs.declared.posted.Posted.{Posted}

-- It has one record, which stands at this place.
pub record BeginsWith (q : Posted) (place : ℕ) (o : OpenBundle) : Type 0 where
  pub ring : o.ring ≡ q.ring
  pub bundle : o.bundle ≡ bundle_of q.redo
  pub end : o.end ≡ place + 1

-- It takes the record of the next number, where a ring of so many cells is long enough.
pub record TakesNext (r : RedoRecord) (cells : ℕ) (o p : OpenBundle) : Type 0 where
  pub can : CanJoin o.bundle r
  pub short : cells_for (length p.bundle.writes) ≤ cells
  pub ring : p.ring ≡ o.ring
  pub bundle : p.bundle ≡ with_next o.bundle r
  pub end : p.end ≡ o.end + 1

-- The bundle joins just the records from a place on and before its end; it goes to the ring of the first one, and fits into one of so many cells.
pub record IsBundled (cells : ℕ) (rest : List Posted) (from : ℕ) (o : OpenBundle) : Type 0 where
  pub some : from < o.end
  pub within : o.end ≤ length rest
  pub ring : o.ring ≡ (at rest from).ring
  pub records : List RedoRecord
  pub joins : JoinsJust records o.bundle
  pub has : (i : ℕ) → from ≤ i → i < o.end → HasRecord records (number_at rest i) × (writes_in records (number_at rest i) ≡ writes_at rest i)
  pub only : (n : ℕ) → HasRecord records n → IsWithin rest from o.end n
  pub first : first_of o.bundle ≡ number_at rest from
  pub span : o.bundle.span ≤ o.bundle.last
  pub short : cells_for (length o.bundle.writes) ≤ cells
  -- where all records of the rest write only words under some place, it does
  pub home : (words : ℕ) → All (λ q. AreUnder words q.redo.writes) rest → AreUnder words o.bundle.writes
