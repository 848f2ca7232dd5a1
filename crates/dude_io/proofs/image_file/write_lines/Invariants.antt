use Rattle.std.proofs.Common.{◌≤◌, length}
use Rattle.dude_io.specs.FileWords.{AreStored}
use Rattle.dude_io.proofs.image_file.write_lines.Given as goal

abbrev pub invariant-loop-rest : goal.invariant-loop-rest
invariant-loop-rest g l = record { few : length l.rest ≤ length l.lines; stored : AreStored l.rest l.words }

abbrev pub decreases-loop-rest : goal.decreases-loop-rest
decreases-loop-rest g l = length l.rest
