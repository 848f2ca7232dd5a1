-- What the rule of the slots reads of a state: the words of the turn, of boxes and pages, the records, and a part of each view.
use Rattle.std.specs.Prelude.{ℕ, Bool, List, map, Option}
use Rattle.dude_base.specs.Records.{RedoRecord}
use Rattle.core_events.specs.Views.{View}
use Rattle.core_events.specs.Words.{State}

-- of a view: its thread, its open number, the place of its next box, and what it has of the turn
pub record Owner : Type 0 where
  pub thread : Option ℕ
  pub number : ℕ
  pub next : ℕ
  pub has_turn : Bool
  pub met_fault : Bool

-- what the rule reads of a view
abbrev pub owner_of : View → Owner
owner_of v = record { thread = v.part.thread; number = v.tx.hand.number; next = v.box.next; has_turn = v.turn.has_it; met_fault = v.turn.met_fault }

-- a part of the state
pub record Stage : Type 0 where
  pub threads : ℕ
  pub turn : ℕ
  pub durable : ℕ
  pub reproduced : ℕ
  -- of the pages
  pub entries : List ℕ
  pub boxes : List ℕ
  pub records : List RedoRecord
  pub persisted : List RedoRecord
  -- of the views
  pub owners : List Owner

-- what the rule reads of a state
abbrev pub stage_of : State → Stage
stage_of c = record { threads = c.threads; turn = c.turn; durable = c.durable; reproduced = c.reproduced; entries = c.entries; boxes = c.boxes; records = c.records; persisted = c.persisted; owners = map owner_of c.views }
