-- What the faults of a recovery print.
use Rattle.std.specs.Prelude.{ℕ, List, ◌++◌, codes, decimal}
use Rattle.image_recovery.specs.declared.open_fault.OpenFault.{OpenFault}
use Rattle.image_recovery.specs.declared.open_fault.OpenFault.TheVariants.{Unformatted, Damaged, NotDb, Device, NoMemory}

-- the text of each `OpenFault`
abbrev pub fault_words : OpenFault → List ℕ
fault_words Unformatted = codes "there is no image"
fault_words (Damaged line) = codes "the image is damaged at line " ++ decimal line
fault_words (NotDb word) = codes "home word " ++ decimal word ++ codes " makes no database"
fault_words Device = codes "a call on the medium failed"
fault_words NoMemory = codes "out of memory"
