-- The state of the machine: the shared words, the views, and the records in boxes and behind them.
use Rattle.std.specs.Prelude.{ℕ, List, slice_index, slice_set}
use Rattle.dude_base.specs.Records.{RedoRecord}
use Rattle.core_events.specs.Views.{View, Word, the_threads, the_clock, the_turn, the_durable, the_reproduced, the_lock, the_entry, the_touch, the_cell, the_box}

-- the shared words, the views by their numbers, and the records in boxes and behind them
pub record State : Type 0 where
  pub threads : ℕ
  pub clock : ℕ
  pub turn : ℕ
  pub durable : ℕ
  pub reproduced : ℕ
  pub locks : List ℕ
  -- of the pages
  pub entries : List ℕ
  pub touches : List ℕ
  -- the words of the frames
  pub cells : List ℕ
  pub boxes : List ℕ
  -- by the number of the view
  pub views : List View
  -- what lies in the boxes
  pub records : List RedoRecord
  -- the records that left their boxes; a medium beside this state has them later
  pub persisted : List RedoRecord

-- what a word holds
abbrev pub found : State → Word → ℕ
found c the_threads = c.threads
found c the_clock = c.clock
found c the_turn = c.turn
found c the_durable = c.durable
found c the_reproduced = c.reproduced
found c (the_lock k) = slice_index c.locks k
found c (the_entry p) = slice_index c.entries p
found c (the_touch p) = slice_index c.touches p
found c (the_cell i) = slice_index c.cells i
found c (the_box k) = slice_index c.boxes k

-- the state with this number in a word
abbrev pub put : State → Word → ℕ → State
put c the_threads n = record c { threads = n }
put c the_clock n = record c { clock = n }
put c the_turn n = record c { turn = n }
put c the_durable n = record c { durable = n }
put c the_reproduced n = record c { reproduced = n }
put c (the_lock k) n = record c { locks = slice_set c.locks k n }
put c (the_entry p) n = record c { entries = slice_set c.entries p n }
put c (the_touch p) n = record c { touches = slice_set c.touches p n }
put c (the_cell i) n = record c { cells = slice_set c.cells i n }
put c (the_box k) n = record c { boxes = slice_set c.boxes k n }
