-- What clauses see of a medium in a file.
use Rattle.std.specs.Prelude.{◌≡◌, ◌==◌, ◌&&◌, ℕ, ◌-◌, ◌^◌, nat_lt, Bool, if◌then◌else◌, List, [], slice_set}
use Rattle.pmem_trait.specs.declared.call.Call.{Call}
use Rattle.pmem_trait.specs.Faults.{faults_after}
use Rattle.pmem_trait.specs.Sights.{Sight, OneCall}
use Rattle.dude_io.specs.declared.file_pmem.FilePmem.{FilePmem}
use Rattle.dude_io.specs.declared.line.Line.{Line}
use Rattle.dude_io.specs.declared.spill.Spill.{Spill}
use Rattle.dude_io.specs.declared.spill.Spill.TheVariants.{Synced, Lost}
use Rattle.dude_io.specs.Clock.{silent_medium}
use Rattle.dude_io.specs.FileWords.{words_of}
use Rattle.dude_io.specs.Line.{NotesLine}
use Rattle.dude_io.specs.Spill.{spill_more, spill_fenced}
use Rattle.dude_io.specs.WriteCache.{note_room}

-- what is seen of a medium in a file: its length, its moment and its count of faults
abbrev pub pmem_sight : {R F D : Type 0} → FilePmem R F D → Sight
pmem_sight medium = silent_medium medium.cache.words.count medium.clock

-- the words of the file, as reads give them
abbrev pub cached_words : {R F D : Type 0} → FilePmem R F D → List ℕ
cached_words medium = words_of medium.cache.words

-- the lines that were noted and aren't in the file yet, in order, each with the words that it held then
abbrev pub noted_lines : {R F D : Type 0} → FilePmem R F D → List Line
noted_lines medium = medium.cache.noted.items

-- how many more lines it can note before those noted have to be written
abbrev pub pmem_room : {R F D : Type 0} → FilePmem R F D → ℕ
pmem_room medium = note_room medium.cache

-- what became of the lines that were written for want of room
abbrev pub spill_of : {R F D : Type 0} → FilePmem R F D → Spill
spill_of medium = medium.spill

-- a fence failed that should have synced lines that are noted no more
abbrev pub HasLostLines : {R F D : Type 0} → FilePmem R F D → Type 0
HasLostLines medium = spill_of medium ≡ Lost

-- a medium that was just opened: no call on it so far and no fault, no line noted, room for all notes, and no line that waits
-- for a sync or is lost
pub record IsJustOpened {R F D : Type 0} (medium : FilePmem R F D) : Type 0 where
  pub now : (pmem_sight medium).now ≡ 0
  pub faults : (pmem_sight medium).faults ≡ 0
  pub room : pmem_room medium ≡ 4096
  pub noted : noted_lines medium ≡ []
  pub spill : spill_of medium ≡ Synced

-- one call: it is as the model has it, and a fault is counted exactly where it fails
pub record MakesCall {R F D : Type 0} (c : Call) (ok : Bool) (old new : FilePmem R F D) : Type 0 where
  pub models : OneCall c ok (pmem_sight old) (pmem_sight new)
  pub faults : (pmem_sight new).faults ≡ faults_after ok (pmem_sight old).faults

-- a moment is left for a call
abbrev pub has_moment : {R F D : Type 0} → FilePmem R F D → Bool
has_moment medium = nat_lt (pmem_sight medium).now (2 ^ 64 - 1)

-- the words of the file, as reads give them, once a value was put in one
abbrev pub words_put : {R F D : Type 0} → ℕ → ℕ → FilePmem R F D → List ℕ
words_put at value medium = slice_set (cached_words medium) at value

-- the room for notes once there is some: where none was left, the notes were dropped
abbrev pub room_made : {R F D : Type 0} → FilePmem R F D → ℕ
room_made medium = if pmem_room medium == 0 then 4096 else pmem_room medium

-- the lines that are still noted once there is room for a note
abbrev pub notes_left : {R F D : Type 0} → FilePmem R F D → List Line
notes_left medium = if pmem_room medium == 0 then [] else noted_lines medium

-- a line of its words was noted behind those that are left
abbrev pub NotesNext : {R F D : Type 0} → ℕ → FilePmem R F D → FilePmem R F D → Type 0
NotesNext line old new = NotesLine (cached_words old) line (notes_left old) (noted_lines new)

-- what became of lines once room was made, or that failed
abbrev pub spill_made : {R F D : Type 0} → Bool → FilePmem R F D → Spill
spill_made ok medium = if ok && pmem_room medium == 0 then spill_more (spill_of medium) else spill_of medium

-- what became of lines behind a fence; one for which no moment is left does nothing
abbrev pub spill_left : {R F D : Type 0} → Bool → FilePmem R F D → Spill
spill_left ok medium = if has_moment medium then spill_fenced ok (spill_of medium) else spill_of medium
