use Rattle.std.proofs.Common.{◌≡◌, ◌*◌, take, flat_map}
use Rattle.std.specs.Int.{w64, to_le_bytes}
use Rattle.dude_io.proofs.line.store_words.Given as goal

abbrev pub invariant-loop-k : goal.invariant-loop-k
invariant-loop-k l = take (8 * l.k) l.into ≡ flat_map (to_le_bytes w64) (take l.k l.words)
