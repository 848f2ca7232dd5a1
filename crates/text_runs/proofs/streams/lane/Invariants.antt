use Rattle.dude_stream.specs.Lanes.{IsLane}
use Rattle.text_runs.proofs.streams.lane.Given as goal

abbrev pub invariant-loop-word : goal.invariant-loop-word
invariant-loop-word l = IsLane l.feed l.drain
