use Rattle.std.proofs.Common.{arith}
use Rattle.dude_io.proofs.image_file.write_lines.Goals as goal

pub offset_bounds-rest-count : goal.offset_bounds-rest-count
offset_bounds-rest-count g c = omega (arith, c.span_length-count.ensures.within, c.loop-rest.invariant.few)
