use Rattle.std.proofs.Common.{◌-◌, ◌≤◌, length, take, All}
use Rattle.dude_io.specs.Line.{IsSpan}
use Rattle.dude_io.proofs.image_file.span_length.Given as goal

abbrev pub invariant-loop-count : goal.invariant-loop-count
invariant-loop-count l = record {
  within : l.count ≤ length l.lines;
  ordered : l.first ≤ l.last;
  bounds : All (λ line. (l.first ≤ line.number) × (line.number ≤ l.last)) (take l.count l.lines);
  span : IsSpan (take l.count l.lines);
}

abbrev pub decreases-loop-count : goal.decreases-loop-count
decreases-loop-count l = length l.lines - l.count
