use Rattle.std.proofs.Common.{length, ◌-◌, ◌≡◌, ◌≤◌, take}
use Rattle.dude_io.specs.Sink.{Took}
use Rattle.dude_io.proofs.writing.write_all.Given as goal

abbrev pub invariant-pieces : goal.invariant-pieces
invariant-pieces g l = record {
  within : l.done ≤ length l.bytes;
  took : Took (take l.done l.bytes) (g.K.Sink.sight l.initial.sink) (g.K.Sink.sight l.sink);
  calm : (g.K.Sink.sight l.sink).faults ≡ (g.K.Sink.sight l.initial.sink).faults;
  same : l.done ≡ 0 → l.sink ≡ l.initial.sink;
}

abbrev pub decreases-pieces : goal.decreases-pieces
decreases-pieces g l = length l.bytes - l.done
