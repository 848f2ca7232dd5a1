use Rattle.std.proofs.Common.{◌≡◌, map}
use Rattle.std.specs.List.{range_with_len}
use Rattle.dude_base.specs.Writes.{HasDistinctPlaces}
use Rattle.redo_record.specs.Record.{write_of}
use Rattle.redo_record.specs.Encoding.{word_in_slice}
use Rattle.redo_record.proofs.decoding.read_writes.Given as goal

-- the first i writes were read, and their words differ
abbrev pub invariant-loop-i : goal.invariant-loop-i
invariant-loop-i l = (l.writes ≡ map (write_of (word_in_slice l.cells)) (range_with_len 0 l.i)) × HasDistinctPlaces l.writes
