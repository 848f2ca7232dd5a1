use Rattle.std.proofs.Common.{◌≡◌, map, replicate, take}
use Rattle.std.specs.Int.{w64, from_le_bytes}
use Rattle.dude_io.proofs.file_words.are_zero.Given as goal

abbrev pub invariant-loop-word : goal.invariant-loop-word
invariant-loop-word l = map (from_le_bytes w64) (take l.word-index l.word-items) ≡ replicate l.word-index 0
