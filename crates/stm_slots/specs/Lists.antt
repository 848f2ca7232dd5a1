-- The kept back, on its lists: what they say of the words, the boxes and the views.
use Rattle.std.specs.Prelude.{◌≡◌, ◌≢◌, ◌⊎◌, ℕ, ◌+◌, ◌<◌, ◌≤◌, true, false, All, List, Some}
use Rattle.std.specs.List.{Contains}
use mathlib.Core.Option.{some}
use lib.ListN.{get_elem?}
use Rattle.dude_base.specs.Records.{RedoBundle, RedoRecord, first_of}
use Rattle.redo_record.specs.Waiting.{Waiting}
use Rattle.back_store.specs.Back.{BackState, waiting_now, waiting_of_ring}
use Rattle.core_events.specs.Setups.{Setup, box_of}
use Rattle.stm_slots.specs.KnownLists.{BackLists, LawfulLists}
use Rattle.stm_slots.specs.Records.{HasRecord, LacksRecord, writes_in}
use Rattle.stm_slots.specs.Stage.{Owner, Stage}

-- a record that stands in a box
abbrev pub IsBoxed : Stage → ℕ → RedoRecord → Type 0
IsBoxed s k r = (get_elem? s.boxes k ≡ some r.number) × (get_elem? s.records k ≡ some r)

-- Numbers of a thread that weren't handed over are over all that waits in its ring
pub record RingsOrdered (z : Setup) (s : Stage) (l : BackLists) : Type 0 where
  -- those in its boxes
  pub boxed : (t j n : ℕ) (q : RedoBundle) → t < z.threads → j < z.boxes → get_elem? s.boxes (box_of z t j) ≡ some n → 0 < n
      → LacksRecord l.records n → Contains (waiting_of_ring l.state t) q → q.last < n
  -- and the open one of its view
  pub opened : (j t : ℕ) (o : Owner) (q : RedoBundle) → get_elem? s.owners j ≡ some o → o.thread ≡ Some t → 0 < o.number
      → Contains (waiting_of_ring l.state t) q → q.last < o.number

-- The back was handed the records that left their boxes, and perhaps some of those whose slots are out with the turn. A dead one may have
-- been handed one that stands in a box still
pub record ListsKept (z : Setup) (s : Stage) (l : BackLists) (taken : List (ℕ × RedoRecord)) : Type 0 where
  pub lawful : LawfulLists z.first l
  pub rings : z.threads ≤ l.state.log.sizes.rings
  pub pages : l.state.log.sizes.pages ≡ z.pages
  -- the words of the numbers are at most those of the back
  pub durable : s.durable ≤ l.state.log.durable
  pub reproduced : s.reproduced ≤ l.state.log.reproduced
  pub fault : (j : ℕ) (o : Owner) → get_elem? s.owners j ≡ some o → o.met_fault ≡ true → l.state.dead ≡ true
  pub persisted : All (λ r. HasRecord l.records r.number × (writes_in l.records r.number ≡ r.writes)) s.persisted
  pub handed : (n : ℕ) → HasRecord l.records n → HasRecord s.persisted n ⊎ ((k : ℕ) × IsBoxed s k (record { number = n; writes = writes_in l.records n }))
  pub in_hand : l.state.dead ≡ false → (k n : ℕ) → get_elem? s.boxes k ≡ some n → 0 < n → HasRecord l.records n → (r : RedoRecord) × Contains taken (k, r)
  pub ordered : l.state.dead ≡ false → RingsOrdered z s l

-- Nothing is left to do: all that leads on is announced and in the home
pub record IsSettled (v : BackState) : Type 0 where
  pub numbers : v.dead ≡ false → v.log.reproduced ≡ v.log.durable
  pub next : v.dead ≡ false → (w : Waiting) → Contains (waiting_now v) w → first_of w.redo ≢ v.log.durable + 1
