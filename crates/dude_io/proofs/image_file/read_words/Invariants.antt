use Rattle.std.proofs.Common.{◌≡◌, ◌-◌, ◌≤◌, vec_capacity}
use Rattle.dude_io.proofs.image_file.read_words.Given as goal

abbrev pub invariant-loop-words : goal.invariant-loop-words
invariant-loop-words g l = record { within : l.words.count ≤ l.count; room : vec_capacity l.words.stored ≡ l.count }

abbrev pub decreases-loop-words : goal.decreases-loop-words
decreases-loop-words g l = l.count - l.words.count
