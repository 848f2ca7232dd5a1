-- Which command opens its image and prints this of it.
use Rattle.command_edges.specs.Command.{Meaning, Meaning.RecoverImage, Meaning.DumpTables}
use Rattle.dude_program.specs.declared.shown.Shown.{Shown}
use Rattle.dude_program.specs.declared.shown.Shown.TheVariants.{Number, Tables}

-- the command that opens its image and prints this of it
abbrev pub meaning_of_shown : Shown → Meaning
meaning_of_shown Number = RecoverImage
meaning_of_shown Tables = DumpTables
