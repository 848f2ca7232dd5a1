-- In which order the files of a command are read.
use Rattle.std.specs.Prelude.{◌≡◌, ◌⊎◌, ℕ, ◌+◌, ◌≤◌, true, false, Option, Some, List, [], ◌∷◌, ◌++◌, length, flat_map, sum_by}
use Rattle.std.specs.List.{AllZip}
use Rattle.dude_io.specs.Files.{FilesSight, FilesStay, ReadMade, ListsReads}
use Rattle.dude_io.specs.ReadsOfFile.{ReadsOfFile, ReadsWhole}
use Rattle.command_edges.specs.CommandFile.{CommandFile, file_limit}
use Rattle.command_edges.specs.declared.fault.Fault.{Fault}
use Rattle.command_edges.specs.declared.fault.Fault.TheVariants.{File, Memory}

-- The reads at which the reading of files ended, behind those that were read whole. At a file that couldn't be read, they are
-- of the next one, whose number the fault has, and the last of them failed. At want of memory they are none, or of the next
-- one, and none failed. Else there are none, and no file is left.
abbrev pub EndsReading : Option Fault → List CommandFile → List CommandFile → List ReadMade → Type 0
EndsReading (Some (File number)) whole [] last = ⊥
EndsReading (Some (File number)) whole (file ∷ later) last = (number ≡ length whole + 1) × ReadsOfFile (file_limit file) file.name true last
EndsReading (Some Memory) whole [] last = last ≡ []
EndsReading (Some Memory) whole (file ∷ later) last = (last ≡ []) ⊎ ReadsOfFile (file_limit file) file.name false last
EndsReading _ whole left last = (left ≡ []) × (last ≡ [])

-- the reads of this file, which was read whole
abbrev pub ReadsFile : FilesSight → CommandFile → List ReadMade → Type 0
ReadsFile files file reads = ReadsWhole (file_limit file) files file.name reads

-- at most one read more than its bytes may be, for each file
abbrev pub most_reads : List CommandFile → ℕ
most_reads wanted = sum_by (λ file. file_limit file + 1) wanted

-- These files were read in order, each once, up to the one that couldn't be read, and no other file.
pub record ReadsInOrder (wanted : List CommandFile) (fault : Option Fault) (s t : FilesSight) : Type 0 where
  -- the texts stay, and the count of faults only rises
  pub stays : FilesStay s t
  -- the first of these files were read whole, the others are left
  pub whole : List CommandFile
  pub left : List CommandFile
  pub split : wanted ≡ whole ++ left
  -- each of these was read whole by reads of its own
  pub each : List (List ReadMade)
  pub each_whole : AllZip (ReadsFile s) whole each
  -- the reading ended with these reads, as the fault says
  pub last : List ReadMade
  pub ended : EndsReading fault whole left last
  -- where reads are listed, these were made, in this order, and no others
  pub made : ListsReads (flat_map (λ reads. reads) each ++ last) s t
  -- for each file at most one more than its bytes may be
  pub few : length (flat_map (λ reads. reads) each ++ last) ≤ most_reads wanted
