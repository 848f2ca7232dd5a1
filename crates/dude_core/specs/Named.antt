-- The events and the words of the definitions, by the types of this crate.
use Rattle.std.specs.Prelude.{ℕ, Bool, MatchBool, Option, Some, None}
use Rattle.core_events.specs.Views.{Word, the_threads, the_clock, the_turn, the_durable, the_reproduced, the_lock, the_entry, the_touch, the_cell, the_box}
use Rattle.core_events.specs.Events.{Event, number, begin, extend, look, load, check, finish, take, draw, decide, store, release, restore, see_box, post, take_turn, give_turn, see_full, empty_box, raise_durable, raise_reproduced, entry, pin, unpin, touch, load_touch, evict, fill, show}
use Rattle.dude_core.specs.declared.word.Word.{Word as Named}
use Rattle.dude_core.specs.declared.word.Word.TheVariants.{Threads, Clock, Turn, Durable, Reproduced, Lock, Entry, Touch, Cell, Box}
use Rattle.dude_core.specs.declared.deed.ReadDeed.{ReadDeed}
use Rattle.dude_core.specs.declared.deed.ReadDeed.TheVariants.{Number, Begin, Extend, Look, Load, Check, Finish}
use Rattle.dude_core.specs.declared.deed.WriteDeed.{WriteDeed}
use Rattle.dude_core.specs.declared.deed.WriteDeed.TheVariants.{Take, Draw, Decide, Store, Release, Restore}
use Rattle.dude_core.specs.declared.deed.TurnDeed.{TurnDeed}
use Rattle.dude_core.specs.declared.deed.TurnDeed.TheVariants.{SeeBox, Post, TakeTurn, GiveTurn, SeeFull, EmptyBox, RaiseDurable, RaiseReproduced}
use Rattle.dude_core.specs.declared.deed.PageDeed.{PageDeed}
use Rattle.dude_core.specs.declared.deed.PageDeed.TheVariants.{Entry as SeeEntry, Pin, Unpin, Touch as TouchPage, LoadTouch, Evict, Fill, Show}
use Rattle.dude_core.specs.declared.filling.Filling.{Filling}
use Rattle.dude_core.specs.declared.deed.Deed.{Deed}
use Rattle.dude_core.specs.declared.deed.Deed.TheVariants.{Read, Write, Turn as OfTurn, Page}

-- the word of the definitions that this value names
abbrev pub word_of : Named → Word
word_of Threads = the_threads
word_of (Box k) = the_box k
word_of Clock = the_clock
word_of (Lock k) = the_lock k
word_of (Entry p) = the_entry p
word_of (Touch p) = the_touch p
word_of (Cell i) = the_cell i
word_of Turn = the_turn
word_of Durable = the_durable
word_of Reproduced = the_reproduced

-- a word of the definitions with the number found in it, or none
abbrev pub found_of : Option (Named × ℕ) → Option (Word × ℕ)
found_of None = None
found_of (Some p) = Some (word_of p.0, p.1)

-- the event of the definitions, of a transaction that reads
abbrev pub of_read : ReadDeed → Event
of_read Number = number
of_read Begin = begin
of_read Extend = extend
of_read (Look k) = look k
of_read (Load i) = load i
of_read (Check k) = check k
of_read (Finish a) = finish a

-- the event of the definitions, of a transaction that writes
abbrev pub of_write : WriteDeed → Event
of_write (Take k) = take k
of_write (Draw a ws) = draw a ws
of_write Decide = decide
of_write (Store i) = store i
of_write (Release k) = release k
of_write (Restore k) = restore k

-- the event of the definitions, of boxes or of the turn
abbrev pub of_turn : TurnDeed → Event
of_turn SeeBox = see_box
of_turn Post = post
of_turn TakeTurn = take_turn
of_turn (GiveTurn failed) = give_turn failed
of_turn (SeeFull t j) = see_full t j
of_turn (EmptyBox t j) = empty_box t j
of_turn (RaiseDurable x) = raise_durable x
of_turn (RaiseReproduced x) = raise_reproduced x

-- the event of the definitions that fills a home word
abbrev pub filled : Filling → Event
filled w = fill w.page w.frame w.at w.value

-- the event of the definitions, of pages and frames
abbrev pub of_page : PageDeed → Event
of_page (SeeEntry p) = entry p
of_page (Pin p) = pin p
of_page (Unpin p) = unpin p
of_page (TouchPage p) = touch p
of_page (LoadTouch p) = load_touch p
of_page (Evict p) = evict p
of_page (Fill w) = filled w
of_page (Show p f) = show p f

-- the event of the definitions
abbrev pub event_of : Deed → Event
event_of (Read d) = of_read d
event_of (Write d) = of_write d
event_of (OfTurn d) = of_turn d
event_of (Page d) = of_page d

-- b says whether P holds
abbrev pub Tells : Bool → Type 0 → Type 0
Tells b P = MatchBool b P (P → ⊥)
