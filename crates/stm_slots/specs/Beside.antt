-- What a seat keeps beside its view: with the turn what the back's slot has, as plain data.
use Rattle.std.specs.Prelude.{ℕ, List, Option, None}
use Rattle.dude_base.specs.Records.{RedoRecord}
use Rattle.shadow_pages.specs.PageMap.{PageMap}
use Rattle.stm_slots.specs.KnownLists.{BackLists}

-- what the thread with the turn has of the back's slot, and the boxes whose slots are out with it
pub record Hands : Type 0 where
  -- of the back
  pub lists : BackLists
  -- of each thread, the place of the box that is emptied next
  pub next : List ℕ
  -- which page is in which frame
  pub map : PageMap
  -- the reproduced word
  pub shown : ℕ
  -- the boxes whose slots are out, each with its record, the one taken last first
  pub boxes : List (ℕ × RedoRecord)

-- with the turn a seat has hands
pub record Beside : Type 0 where
  pub turn : Option Hands

-- what a seat keeps beside its view that never had the turn
abbrev pub nothing_beside : Beside
nothing_beside = record { turn = None }
