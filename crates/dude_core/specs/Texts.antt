-- What the faults of a core print.
use Rattle.std.specs.Prelude.{ℕ, List, ◌++◌, codes, decimal}
use Rattle.dude_core.specs.declared.core_fault.CoreFault.{CoreFault}
use Rattle.dude_core.specs.declared.core_fault.CoreFault.TheVariants.{Size, NoMemory}

-- the text of each `CoreFault`
abbrev pub fault_words : CoreFault → List ℕ
fault_words (Size frames pages) = codes "a run out of its limits, with " ++ decimal frames ++ codes " frames of " ++ decimal pages ++ codes " pages"
fault_words NoMemory = codes "out of memory"
