-- What the faults of a format print.
use Rattle.std.specs.Prelude.{ℕ, List, ◌++◌, codes, decimal}
use Rattle.dude_base.specs.Texts.{field_words}
use Rattle.dude_recover.specs.declared.format_fault.FormatFault.{FormatFault}
use Rattle.dude_recover.specs.declared.format_fault.FormatFault.TheVariants.{Size, Small, TooFew, Device, NoMemory}

-- the text of each `FormatFault`
abbrev pub fault_words : FormatFault → List ℕ
fault_words (Size field) = field_words field
fault_words (Small has needs) = codes "the medium has " ++ decimal has ++ codes " words, the image needs " ++ decimal needs
fault_words (TooFew rows calls) = codes "there are " ++ decimal rows ++ codes " call rows, and room for " ++ decimal calls
fault_words Device = codes "a call on the medium failed"
fault_words NoMemory = codes "out of memory"
