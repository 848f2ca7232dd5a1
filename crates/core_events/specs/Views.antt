-- What a view keeps: all that the thread with a seat at the table knows of its own steps.
-- It is nested by the events that change it.
use Rattle.std.specs.Prelude.{ℕ, Bool, List, Option}
use Rattle.tatp_model.specs.declared.request.Request.{Request}
use Rattle.tatp_model.specs.declared.reply.Reply.{Reply}
use Rattle.dude_base.specs.declared.write.Write.{Write}

-- the shared words, by name; the words of frames and of boxes are numbered through
pub data Word : Type 0 where
  -- how many threads' numbers were drawn
  the_threads : Word
  -- the last number drawn
  the_clock : Word
  -- 0, or t + 1 of the thread t that has the turn
  the_turn : Word
  the_durable : Word
  the_reproduced : Word
  -- 2 * version, or 2 * t + 1 of its owner
  the_lock : ℕ → Word
  -- of a page: 0 where it is absent, else its frame and its pins
  the_entry : ℕ → Word
  -- of a page: at least each number that wrote to it
  the_touch : ℕ → Word
  the_cell : ℕ → Word
  -- 0, or the number of the record in the box
  the_box : ℕ → Word

-- what an entry is about
pub record About : Type 0 where
  pub file : ℕ
  pub index : ℕ
  pub request : Request
  pub reply : Reply

-- what a transaction leaves; reads are places and values
pub record Entry : Type 0 where
  pub number : ℕ
  pub wrote : Bool
  pub about : About
  pub reads : List (ℕ × ℕ)
  pub writes : List Write

-- whose view it is
pub record Part : Type 0 where
  -- it was joined into another
  pub is_spent : Bool
  pub thread : Option ℕ
  -- the threads of the views that were joined into it
  pub ended : List ℕ
  pub splits : ℕ

-- the number that the view drew and hasn't posted; 0 is none
pub record Hand : Type 0 where
  pub number : ℕ
  pub decided : Bool
  pub void : Bool
  pub about : About
  pub writes : List Write
  pub stored : List ℕ

-- the transaction of a view
pub record Transaction : Type 0 where
  pub is_open : Bool
  pub snapshot : ℕ
  -- where an extension goes, while one is open
  pub extension : Option ℕ
  -- the confirmed reads
  pub reads : List (ℕ × ℕ)
  -- the locks that were found good since the draw, or since the extension's clock
  pub checked : List ℕ
  -- the last look: a lock and its word
  pub look : Option (ℕ × ℕ)
  -- the value that waits for its second look, and its place
  pub loaded : Option (ℕ × ℕ)
  -- the locks that it owns, with their old words
  pub owned : List (ℕ × ℕ)
  pub hand : Hand

-- what a view keeps of pages
pub record Paging : Type 0 where
  -- the page entries that it keeps
  pub entries : List (ℕ × ℕ)
  -- the pages that it pins, with their frames
  pub pins : List (ℕ × ℕ)
  -- the pages that its number touched
  pub touched : List ℕ

-- what a view keeps of the boxes of its thread
pub record Boxes : Type 0 where
  -- the place of its next box
  pub next : ℕ
  -- that box was seen empty
  pub is_empty : Bool

-- what a view keeps of the turn
pub record Turn : Type 0 where
  pub has_it : Bool
  -- how many turns it took; the count stays at its last value
  pub count : ℕ
  -- the greatest durable number that it raised
  pub durable : ℕ
  pub met_fault : Bool
  -- what it keeps in this turn: the numbers of boxes, the touches of pages, and the home words that it filled, with their frames
  pub full : List (ℕ × ℕ)
  pub touches : List (ℕ × ℕ)
  pub filled : List (ℕ × ℕ)

-- what a view keeps: whose it is, its draws, its transaction, pages, boxes and turn, and the entries that it made
pub record View : Type 0 where
  pub part : Part
  -- how many numbers it may still draw, and all that it drew
  pub draws : ℕ
  pub drawn : List ℕ
  pub tx : Transaction
  pub paging : Paging
  pub box : Boxes
  pub turn : Turn
  pub entries : List Entry
  -- the last found word, and how many were found; the count stays at its last value
  pub found : Option (Word × ℕ)
  pub count : ℕ
