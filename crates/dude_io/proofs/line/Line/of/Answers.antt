use Rattle.std.proofs.Common.{refl, arith}
use Rattle.dude_io.proofs.Pieces.{take_same}
use Rattle.dude_io.proofs.line.Line.of.Goals as goal

pub returns : goal.returns
returns c = record { at = refl; held = take_same _ 8 _ _ c.copy_from_slice.ensures.after (omega arith) }
