-- The words of the core, and which of them exist.
use Rattle.std.specs.Prelude.{◌*◌, ◌<◌}
use Rattle.dude_base.specs.declared.limits.TheConstants.{PAGE}
use Rattle.core_events.specs.Setups.{Setup, box_of}
use Rattle.core_events.specs.Views.{Word, the_threads, the_clock, the_turn, the_durable, the_reproduced, the_lock, the_entry, the_touch, the_cell, the_box}
use Rattle.dude_core.specs.declared.core_word.CoreWord.{CoreWord}
use Rattle.dude_core.specs.declared.core_word.CoreWord.TheVariants.{Threads, Clock, Turn, Durable, Reproduced, Lock, Entry, Touch, FrameWord, BoxWord}

-- the word of the definitions
abbrev pub word_at : Setup → CoreWord → Word
word_at z Threads = the_threads
word_at z Clock = the_clock
word_at z Turn = the_turn
word_at z Durable = the_durable
word_at z Reproduced = the_reproduced
word_at z (Lock k) = the_lock k
word_at z (Entry p) = the_entry p
word_at z (Touch p) = the_touch p
word_at z (FrameWord i) = the_cell i
word_at z (BoxWord t j) = the_box (box_of z t j)

-- the word exists
abbrev pub HasWord : Setup → CoreWord → Type 0
HasWord z (Lock k) = k < z.locks
HasWord z (Entry p) = p < z.pages
HasWord z (Touch p) = p < z.pages
HasWord z (FrameWord i) = i < z.frames * PAGE
HasWord z (BoxWord t j) = (t < z.threads) × (j < z.boxes)
HasWord z w = Unit {0}
