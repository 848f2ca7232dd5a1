use Rattle.std.proofs.Common.{◌-◌, ◌+◌, ◌≤◌, vec_len}
use Rattle.dude_io.proofs.ReadLaws.{ReadSoFar}
use Rattle.dude_io.proofs.reading.read_file.Given as goal

abbrev pub invariant-pieces : goal.invariant-pieces
invariant-pieces g l = record {
  bounded : vec_len l.bytes ≤ l.limit;
  read : ReadSoFar l.name l.bytes.items (g.F.Files.sight l.initial.files) (g.F.Files.sight l.files);
}

abbrev pub decreases-pieces : goal.decreases-pieces
decreases-pieces g l = l.limit + 1 - vec_len l.bytes
