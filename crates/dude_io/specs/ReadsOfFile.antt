-- Which reads it takes to read a file.
use Rattle.std.specs.Prelude.{◌≡◌, ℕ, ◌<◌, ◌≤◌, Bool, true, false, IsTrue, IfSome, List, [], ◌∷◌, ◌++◌, length, Result, Ok, Err}
use Rattle.dude_io.specs.Files.{FilesSight, ReadMade, ListsReads}
use Rattle.dude_io.specs.declared.file_text.FileText.{FileText}
use Rattle.dude_io.specs.declared.file_fault.FileFault.{FileFault}
use Rattle.dude_io.specs.declared.file_fault.FileFault.TheVariants.{Failed, NoMemory}

-- These reads of a file were answered, and gave its bytes up to a place: the first is from byte 0 on, each further one from
-- where the one before ended, and each gave at least one byte.
pub data GaveUpTo (name : List ℕ) : ℕ → List ReadMade → Type 0 where
  none : GaveUpTo name 0 []
  more : {at next : ℕ} {reads : List ReadMade} → GaveUpTo name at reads → at < next
      → GaveUpTo name next (reads ++ record { name = name; at = at; failed = false } ∷ [])

-- The reads of one file: some that gave its bytes up to a place within the limit, and a last one from there on, which failed
-- or didn't.
pub record ReadsOfFile (limit : ℕ) (name : List ℕ) (failed : Bool) (reads : List ReadMade) : Type 0 where
  pub end : ℕ
  pub within : end ≤ limit
  pub gave : List ReadMade
  pub up_to : GaveUpTo name end gave
  pub last : reads ≡ gave ++ record { name = name; at = end; failed = failed } ∷ []

-- The reads of a file that was read whole: none failed; and where the files are visible and its text is within the limit, the
-- last one was from the end of the text on.
pub record ReadsWhole (limit : ℕ) (files : FilesSight) (name : List ℕ) (reads : List ReadMade) : Type 0 where
  pub of_file : ReadsOfFile limit name false reads
  pub whole : IsTrue files.is_visible → IfSome (files.text name) (λ text. length text ≤ limit → of_file.end ≡ length text)

-- the reads of a file by what they came to: it was read whole, the last one failed, or there was no memory behind them
abbrev pub ReadsTo : ℕ → FilesSight → List ℕ → Result FileText FileFault → List ReadMade → Type 0
ReadsTo limit files name (Ok text) reads = ReadsWhole limit files name reads
ReadsTo limit files name (Err Failed) reads = ReadsOfFile limit name true reads
ReadsTo limit files name (Err NoMemory) reads = ReadsOfFile limit name false reads

-- the file of this name was read by such reads, and where reads are listed, no others were made
abbrev pub ReadsOnce : ℕ → List ℕ → Result FileText FileFault → FilesSight → FilesSight → Type 0
ReadsOnce limit name result s t = (reads : List ReadMade) × ReadsTo limit s name result reads × ListsReads reads s t
