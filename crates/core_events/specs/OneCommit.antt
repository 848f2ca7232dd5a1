-- One transaction on the smallest setup, step by step: a thread reads the word 3 and writes it, and its record is persisted.
use Rattle.std.specs.Prelude.{List, [], ◌∷◌, map, replicate, true, false}
use Rattle.dude_base.specs.declared.limits.TheConstants.{PAGE}
use Rattle.dude_base.specs.declared.write.Write.{Write}
use Rattle.core_events.specs.Setups.{Setup}
use Rattle.core_events.specs.Views.{Entry}
use Rattle.core_events.specs.Events.{Event, number, see_box, begin, entry, pin, look, load, check, take, draw, decide, store, touch, release, unpin, post, take_turn, see_full, empty_box, raise_durable, raise_reproduced, give_turn, no_about}
use Rattle.core_events.specs.Partings.{Step, event}

-- one thread, lock, page, frame and box; all words are 0
abbrev pub smallest : Setup
smallest = record { threads = 1; locks = 1; pages = 1; frames = 1; boxes = 1; opening = replicate PAGE 0; first = 0; is_told = true; may_fail = false }

-- the value 7 for the word 3
abbrev pub one_write : List Write
one_write = record { at = 3; value = 7 } ∷ []

-- a thread's number is drawn, the transaction reads, writes and posts, and a turn persists its record
abbrev pub commit_events : List Event
commit_events =
    number ∷ see_box ∷ begin ∷ entry 0 ∷ pin 0 ∷ look 0 ∷ load 3 ∷ check 0 ∷ take 0 ∷ draw no_about one_write ∷ check 0 ∷ decide ∷ store 3 ∷ touch 0 ∷ release 0 ∷ unpin 0 ∷ post
    ∷ take_turn ∷ see_full 0 0 ∷ empty_box 0 0 ∷ raise_durable 1 ∷ raise_reproduced 1 ∷ give_turn false ∷ []

-- these events, all made by the first view
abbrev pub commit_steps : List Step
commit_steps = map (λ e. event 0 e) commit_events

-- the entry that the commit leaves
abbrev pub commit_entry : Entry
commit_entry = record { number = 1; wrote = true; about = no_about; reads = (3, 0) ∷ []; writes = one_write }
