-- The room for notes of lines.
use Rattle.std.specs.Prelude.{ℕ, ◌-◌, vec_len}
use Rattle.dude_io.specs.declared.write_cache.WriteCache.{WriteCache}
use Rattle.dude_io.specs.FileWords.{words_of}
use Rattle.dude_io.specs.Line.{NotesLine}

-- how many more lines it can note before those noted have to be written
abbrev pub note_room : WriteCache → ℕ
note_room cache = 4096 - vec_len cache.noted

-- a line of the words that it holds was noted behind those noted before
abbrev pub NotesOwnLine : ℕ → WriteCache → WriteCache → Type 0
NotesOwnLine number old new = NotesLine (words_of old.words) number old.noted.items new.noted.items
