-- What reading a whole file finds.
use Rattle.std.specs.Prelude.{◌≡◌, ℕ, ◌<◌, ◌≤◌, ⊤, IsTrue, IsSomeAnd, List, length}
use Rattle.dude_io.specs.Files.{FilesSight}
use Rattle.dude_io.specs.declared.file_text.FileText.{FileText}
use Rattle.dude_io.specs.declared.file_text.FileText.TheVariants.{Whole, TooLong}
use Rattle.dude_io.specs.declared.file_fault.FileFault.{FileFault}
use Rattle.dude_io.specs.declared.file_fault.FileFault.TheVariants.{Failed, NoMemory}
use Rattle.pmem_trait.specs.Sights.{Risen}

-- a text that is handed out is no longer than the limit
abbrev pub IsBounded : ℕ → FileText → Type 0
IsBounded limit (Whole bytes) = length bytes.items ≤ limit
IsBounded limit TooLong = ⊤

-- the whole text, or that it is longer than the limit
abbrev pub HoldsText : ℕ → FileText → List ℕ → Type 0
HoldsText limit (Whole bytes) text = bytes.items ≡ text
HoldsText limit TooLong text = limit < length text

-- what was read of the file of this name, where the files are visible: its whole text, or that it is over the limit
abbrev pub IsFileText : ℕ → FilesSight → List ℕ → FileText → Type 0
IsFileText limit files name found = IsTrue files.is_visible → IsSomeAnd (files.text name) (HoldsText limit found)

-- a fault of the files comes only where their count rose; want of memory is free
abbrev pub IsReadFault : FilesSight → FilesSight → FileFault → Type 0
IsReadFault old new Failed = Risen old.faults new.faults
IsReadFault old new NoMemory = ⊤
