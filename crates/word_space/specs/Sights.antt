-- What contracts see of a value that reads and writes an array of words.
use Rattle.std.specs.Prelude.{◌≡◌, ℕ, ◌^◌, ◌<◌, List, length, Option, All, slice_index}
use Rattle.dude_base.specs.declared.write.Write.{Write}
use Rattle.dude_base.specs.Writes.{IsWriteList, overwritten}
use Rattle.word_space.specs.declared.stop.Stop.{Stop}

-- how many words there are; the reads made from the array below, each a word's number and the value found;
-- the writes, which are pending; the last Stop answered
pub record WordsSight : Type 0 where
  pub count : ℕ
  pub reads : List (ℕ × ℕ)
  pub writes : List Write
  pub stopped : Option Stop

-- what always holds of words as they are seen: their number fits 64 bits, and each read and each write is inside the array
pub record IsWellFormed (s : WordsSight) : Type 0 where
  pub count : s.count < 2 ^ 64
  pub reads_inside : All (λ r. r.0 < s.count) s.reads
  pub writes : IsWriteList s.writes
  pub inside : All (λ w. w.at < s.count) s.writes

-- the array agrees with a list of reads: it has at each word the value that was read
pub record Agrees (reads : List (ℕ × ℕ)) (array : List ℕ) : Type 0 where
  pub each : All (λ r. slice_index array r.0 ≡ r.1) reads

-- this array may lie below: it has the right length and agrees with the reads made
pub record IsBelow (s : WordsSight) (array : List ℕ) : Type 0 where
  pub size : length array ≡ s.count
  pub agrees : Agrees s.reads array

-- the words as they are seen where this array lies below: the writes are applied
abbrev pub shown : WordsSight → List ℕ → List ℕ
shown s array = overwritten s.writes array
